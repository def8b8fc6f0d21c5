-- `check_offers::offers` meets its contract.
use Rattle.check_offers.specs.OfferWays.{offers_none, offers_no_header, offers_no_room, offers_all}
use Rattle.check_offers.proofs.offers.Goals as goal

pub returns-then-not-header : goal.returns-then-not-header
returns-then-not-header c = offers_no_header c.offers_root-x.ensures c.envelope_root-e.ensures c.header.ensures c.if-not-header.true

pub returns-then-x-eq0 : goal.returns-then-x-eq0
returns-then-x-eq0 c = offers_none c.offers_root-x.ensures c.envelope_root-e.ensures c.header.ensures
    c.if-not-header.false c.if-x-eq0.true c.then_some.ensures

pub returns : goal.returns
returns c = offers_all c.offers_root-x.ensures c.envelope_root-e.ensures c.header.ensures c.if-not-header.false
    c.if-x-eq0.false c.ordered.ensures c.enveloped.ensures c.if-not-ordered.false c.if-not-enveloped.false
    c.in_ok-f.ensures

pub returns-in_err-f : goal.returns-in_err-f
returns-in_err-f c = rw c.from_residual.ensures (offers_no_room c.offers_root-x.ensures c.envelope_root-e.ensures c.header.ensures c.if-not-header.false
    c.if-x-eq0.false c.ordered.ensures c.enveloped.ensures c.in_err-f.ensures)
