-- `witness::seven_calls` meets its contract: each call adds its promise, and `made` puts them together.
use mathlib.Core.Path.{refl}
use Rattle.witness.specs.SevenCalls.{made}
use Rattle.witness.proofs.seven_calls.Goals as goal

pub returns : goal.returns
returns c = made refl refl c.«open».ensures c.post.ensures c.post-2.ensures c.query.ensures c.listing.ensures
    c.withdraw.ensures c.query-2.ensures c.take_back.ensures
