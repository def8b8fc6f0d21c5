-- The tree of offers has a leaf per rate. What an update does to it: it stays, a line is inserted, or a line leaves its place to another of its rate or to
-- nobody. Whichever it is, the words then hold the tree of the firsts (`Settled`).
use Rattle.std.specs.Prelude.{◌≡◌, refl, ◌≢◌, Bool, true, false, not, ℕ, T, ℤ}
use Rattle.std.proofs.Common.{sym, ◌∙◌, subst}
use mathlib.Core.List.Memᴰ
use mathlib.Core.List.{List, [], ◌++◌, Memᴰ}
use Rattle.std.proofs.Math.Option.{Option, none, some}
use Rattle.std.specs.Int.Signed.{lt_z}
use Rattle.lists.specs.Bools.{said, denied}
use Rattle.lists.specs.Firsts.{firsts, firsts_sub}
use Rattle.lists.specs.Places.{sublist_mem}
use Rattle.plain.specs.FirstLaws.{Standing, cover}
use Rattle.dynamic.specs.OfferTree.{Held, held_shape, Pair}
use Rattle.dynamic.specs.Updates.{vacated}
use Rattle.dynamic.specs.Valid.{WholeBook, book_lines, stand_in, Fits}
use Rattle.firsts.specs.Filed.{Filed}
use Rattle.table.specs.Fields.{rank_field}
use Rattle.table.specs.Words.{Words}
use Rattle.table.specs.Layout.{cap, cell}
use Rattle.table.specs.Items.{Item, Slots, slots_sublist, offer_of}
use Rattle.table.specs.Rep.{ref_of, Within, within_refl}
use Rattle.table.specs.Threads.{Holds}
use Rattle.table.specs.Keys.{Keyed}
use Rattle.table.specs.PartTrees.{part_ref}
use Rattle.pieces.specs.Pieces.{items, rate_of}
use Rattle.form.specs.Stored.{HeldIn, EnvelopeField}
use Rattle.form.specs.Form.{OffersIn, offers_ref, envelope_ref, rank_of}
use Rattle.levels.specs.Levels.{HandIn, Counted}
use Rattle.levels.specs.declared.Held.{Held as InHand}
use Rattle.levels.specs.declared.Made.{Made as Outcome}
use Rattle.update.specs.Steps.{alone_at, slot_by, InsertedIn, Leaver, LeftIn, RemovedIn}
use Rattle.settling.specs.Agree.{Agree, agree_touched}

-- ---- what the code does

-- nothing was searched, and the tree is as it was
abbrev pub idle : InHand → Outcome
idle x = record { held = x; counts = record { searches = 0; steps = 0; heights = 0 } }

-- the item in slot s comes; that in slot f is the first of its rate, 0 for none
pub data Joined (s f : ℕ) (x : InHand) (w w' : Words) (m : Outcome) : Type 0 where
  joins_alone : f ≡ 0 → x.tree ≡ 0 → w' ≡ w → m ≡ alone_at s → Joined s f x w w' m
  joins_among : f ≡ 0 → x.tree ≢ 0 → InsertedIn s x w w' m → Joined s f x w w' m
  joins_ahead : f ≢ 0 → T (lt_z (cell w rank_field f) (cell w rank_field s)) → RemovedIn f s x w w' m → Joined s f x w w' m
  joins_behind : f ≢ 0 → T (not (lt_z (cell w rank_field f) (cell w rank_field s))) → w' ≡ w → m ≡ idle x → Joined s f x w w' m

-- the test as the code makes it
pub rank_said : (q : ℤ) {z first : ℤ} {r : Bool} → z ≡ first → r ≡ lt_z z q → r ≡ true → T (lt_z first q)
rank_said q e d t = subst (λ (z : ℤ). T (lt_z z q)) e (said d t)

pub rank_denied : (q : ℤ) {z first : ℤ} {r : Bool} → z ≡ first → r ≡ lt_z z q → r ≡ false → T (not (lt_z first q))
rank_denied q e d t = subst (λ (z : ℤ). T (not (lt_z z q))) e (denied d t)

-- the item in slot s goes; that in slot f is the first of its rate, that in slot y follows it, 0 for none
pub data Left (s f y : ℕ) (x : InHand) (w w' : Words) (m : Outcome) : Type 0 where
  leaves_place : f ≡ s → RemovedIn s y x w w' m → Left s f y x w w' m
  leaves_behind : f ≢ s → w' ≡ w → m ≡ idle x → Left s f y x w w' m

-- ---- what it leaves

-- a tree that stands, in hand
pub in_hand : {w : Words} {x : InHand} {g : Held Item} {t e : ℕ} → x.tree ≡ ref_of (held_shape g) → x.envelope ≡ part_ref g.whole → HeldIn w t e g →
    HandIn w x g
in_hand et ee o =
    record {
      root = et;
      envelope = ee;
      slots = o.slots;
      kept = o.kept;
      tied = o.tied;
      stored = o.stored;
      pieces = o.pieces;
      right = o.right;
    }

-- the words hold a tree
pub record LeftBook (w : Words) (x : InHand) (after : Option (Held Item)) : Type 0 where
  pub root : x.tree ≡ offers_ref after
  pub envelope : x.envelope ≡ envelope_ref after
  pub offers : OffersIn w after

pub left_book : {w : Words} {x : InHand} (after : Option (Held Item)) → LeftIn w x after → LeftBook w x after
left_book none (p, q) = record { root = p; envelope = q; offers = tt }
left_book (some g) i =
    record {
      root = i.root;
      envelope = i.envelope;
      offers = in_hand refl refl i;
    }

-- the fields that are none of an envelope
abbrev pub OffEnvelope : ℕ → ℕ → Type 0
OffEnvelope f s = EnvelopeField f → ⊥

-- the words hold the tree of the firsts of these items, and nothing else has changed
pub record Settled (held : Option (Held Item)) (live : List Item) (w w' : Words) (m : Outcome) : Type 0 where
  pub after : Option (Held Item)
  pub log : List (Pair Item)
  pub within : Within w w'
  pub agree : Agree OffEnvelope w w'
  pub left : LeftBook w' m.held after
  pub counted : Counted log m.counts
  pub filed : Filed Item offer_of held after live log

-- words that hold the tree of offers, as it was
pub record Before (w : Words) (x : InHand) (held : Option (Held Item)) (live : List Item) : Type 0 where
  pub tree : x.tree ≡ offers_ref held
  pub envelope : x.envelope ≡ envelope_ref held
  pub offers : OffersIn w held
  pub whole : WholeBook items held
  pub lines : book_lines held ≡ firsts items.before live
  pub standing : Standing Item offer_of live
  pub slots : Slots (cap w) live
  pub holds : Holds w live
  pub ranked : Keyed w rank_field rank_of live

module _ {w : Words} {x : InHand} {held : Option (Held Item)} {live : List Item} (b : Before w x held live) where
  pub line_live : {a : Item} → Memᴰ a (book_lines held) → Memᴰ a live
  line_live {a} m = sublist_mem (firsts_sub items.before live) (subst (Memᴰ a) b.lines m)

  pub slots_lines : Slots (cap w) (book_lines held)
  slots_lines = subst (Slots (cap w)) (sym b.lines) (slots_sublist (firsts_sub items.before live) b.slots)

  -- every live rate has its line
  pub rate_none : {r : ℤ} → ((a : Item) → Memᴰ a (book_lines held) → rate_of a ≢ r) → (a : Item) → Memᴰ a live → rate_of a ≢ r
  rate_none n a m e =
      let c = cover Item offer_of b.standing a m in
      n c.by (subst (Memᴰ c.by) (sym b.lines) c.one_of) (c.rate ∙ e)

  -- nothing is done
  pub unmoved : {live' : List Item} {w' : Words} {m : Outcome} → w' ≡ w → m ≡ idle x → Filed Item offer_of held held live' [] → Settled held live' w w' m
  unmoved ew em f =
      rw (ew, em)
      (record {
        after = held;
        log = [];
        within = within_refl w;
        agree = record { room = refl; cells = λ g s d. refl };
        left = record { root = b.tree; envelope = b.envelope; offers = b.offers };
        counted = record { searches = refl; steps = refl; heights = refl };
        filed = f;
      })

  -- a line leaves its place, to a stand-in or to nobody
  pub vacates : {live' : List Item} {w' : Words} {m : Outcome} {s y : ℕ} (a : Item) (by : Option Item) → s ≡ a.slot → y ≡ slot_by by →
      Memᴰ a (book_lines held) → Fits items a by → Holds w (stand_in by) → Slots (cap w) (stand_in by ++ book_lines held) → RemovedIn s y x w w' m →
      Filed Item offer_of held (vacated items a by held).rest live' (vacated items a by held).log → Settled held live' w w' m
  vacates {live'} {w'} {m} {s} {y} a by es ey i fits kept slots r = go held by b.tree b.envelope b.offers i fits kept slots ey
    where
      go : (h : Option (Held Item)) (by : Option Item) → x.tree ≡ offers_ref h → x.envelope ≡ envelope_ref h → OffersIn w h → Memᴰ a (book_lines h) →
          Fits items a by → Holds w (stand_in by) → Slots (cap w) (stand_in by ++ book_lines h) → y ≡ slot_by by →
          Filed Item offer_of h (vacated items a by h).rest live' (vacated items a by h).log → Settled h live' w w' m
      go none by et ee o i fits kept slots ey f = absurd (Memᴰ.not-nil i)
      go (some g) by et ee o i fits kept slots ey f =
          record {
            after = _;
            log = _;
            within = r.within;
            agree = agree_touched r.within (r.touched a by g there) (λ h s d. d);
            left = left_book _ (r.rest a by g there);
            counted = r.counted a by g there;
            filed = f;
          }
        where
          there : Leaver w s y x a by g
          there =
              record {
                slot = es;
                member = i;
                held = in_hand et ee o;
                by_slot = ey;
                fits = fits;
                kept = kept;
                slots = slots;
              }
