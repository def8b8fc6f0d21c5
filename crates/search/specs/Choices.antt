-- What a step is to do, by numbers alone: whoever does it has made the machine's step.
use Rattle.std.specs.Prelude.{Option, None, Some, ℕ, ◌-◌, ◌≤◌, ◌<◌, ◌≡◌, refl, Bool, true, false, not, ◌&&◌, List, leb}
use Rattle.std.proofs.Common.{sym, ◌∙◌, ap, true≢false}
use Rattle.table.specs.Fields.{most_slots}
use Rattle.table.specs.Words.{Words}
use Rattle.walks.specs.declared.Action.{Action}
use Rattle.walks.specs.declared.Action.TheVariants.{Stay, Retreat, Advance, Pop}
use Rattle.walks.specs.declared.Move.{Move}
use Rattle.search.specs.declared.Search.{Search}
use Rattle.prices.specs.Prices.{above_at}
use Rattle.walks.specs.Walks.{Walk}
use Rattle.walks.specs.CodeMoves.{Topped, Pointed, point_word, pointed_by}
use Rattle.walks.specs.Actions.{walk, Does, Stays, sided}
use Rattle.search.specs.SearchSteps.{u_of, v_of, Receded, Stepped, receded_bottom, receded_leaf, receded_mine, receded_theirs, receded_neither}
use Rattle.search.specs.SearchSteps.{stepped_mine, stepped_theirs, stepped_done, stepped_on}

-- ---- the promises

-- ours stands at x and pushed t last, the other stands at y, and p keeps its point
pub record Recedes (ours other : Words) (side : Bool) (x t y p : ℕ) (m : Move) : Type 0 where
  pub mine : Action
  pub theirs : Action
  pub is : m ≡ sided side mine theirs
  pub next : {st st' : List ℕ} {d d' : ℕ} → Topped (walk x st d) t → Pointed (walk y st' d') p → {h k : Walk} → Does ours side mine (walk x st d) h →
      Does other (not side) theirs (walk y st' d') k → Receded ours other side (walk x st d) (walk y st' d') h k

abbrev pub state : ℕ → List ℕ → ℕ → ℕ → List ℕ → ℕ → Bool → Search
state u us ud v vs vd done =
    record {
      u = u;
      v = v;
      us = us;
      ud = ud;
      vs = vs;
      vd = vd;
      done = done;
    }

-- what a step makes of two walks: where there is no move both stay, and the search is finished
abbrev pub Moves : Words → Words → Option Move → Walk → Walk → Search → Type 0
Moves wl wr None h k r = (r.done ≡ true) × Stays wl h (u_of r) × Stays wr k (v_of r)
Moves wl wr (Some m) h k r = (r.done ≡ false) × Does wl false m.u h (u_of r) × Does wr true m.v k (v_of r)

pub record Chooses (wl wr : Words) (u t v w : ℕ) (m : Option Move) : Type 0 where
  pub next : (us : List ℕ) (ud : ℕ) (vs : List ℕ) (vd : ℕ) (b : Bool) → Topped (walk u us ud) t → Topped (walk v vs vd) w → (r : Search) →
      Moves wl wr m (walk u us ud) (walk v vs vd) r → Stepped wl wr (state u us ud v vs vd b) r

-- ---- each answer of the code

module _ {ours other : Words} {side : Bool} {x t y p : ℕ} {m : Move} where
  pub recedes_bottom : m ≡ sided side Retreat Stay → t < 1 → Recedes ours other side x t y p m
  recedes_bottom e d = record { mine = Retreat; theirs = Stay; is = e; next = λ a b f g. receded_bottom t a d f g }

  module _ (deep : 1 ≤ t) where
    pub recedes_leaf : m ≡ sided side Pop Stay → x ≤ most_slots → Recedes ours other side x t y p m
    recedes_leaf e l = record { mine = Pop; theirs = Stay; is = e; next = λ a b f g. receded_leaf t a deep l f g }

    module _ (inner : most_slots < x) {s : ℕ} (at_top : s ≡ t - most_slots) where
      pub recedes_mine : m ≡ sided side Pop Stay → above_at ours s other y ≡ true → Recedes ours other side x t y p m
      recedes_mine e z = record { mine = Pop; theirs = Stay; is = e; next = λ a b f g. receded_mine t a deep inner s at_top f g z }

      module _ (clear : above_at ours s other y ≡ false) where
        pub recedes_theirs : m ≡ sided side Retreat Retreat → above_at other p ours t ≡ true → Recedes ours other side x t y p m
        recedes_theirs e z =
            record { mine = Retreat; theirs = Retreat; is = e; next = λ a b f g. receded_theirs t a deep inner s at_top p b clear f g z }

        pub recedes_neither : m ≡ sided side Retreat Advance → above_at other p ours t ≡ false → Recedes ours other side x t y p m
        recedes_neither e z =
            record { mine = Retreat; theirs = Advance; is = e; next = λ a b f g. receded_neither t a deep inner s at_top p b clear f g z }

module _ {wl wr : Words} {u t v w p q : ℕ} (ep : p ≡ point_word u t) (eq : q ≡ point_word v w) where
  pub chooses_mine : {m : Move} → above_at wl p wr v ≡ true → Recedes wl wr false u t v q m → Chooses wl wr u t v w (Some m)
  chooses_mine a z =
      record {
        next = λ us ud vs vd b tu tv r (d, f, g).
            stepped_mine (pointed_by tu ep) a d
            (z.next tu (pointed_by tv eq) (rw (ap (λ (n : Move). n.u) z.is) at f) (rw (ap (λ (n : Move). n.v) z.is) at g));
      }

  module _ (clear : above_at wl p wr v ≡ false) where
    pub chooses_theirs : {m : Move} → above_at wr q wl u ≡ true → Recedes wr wl true v w u p m → Chooses wl wr u t v w (Some m)
    chooses_theirs a z =
        record {
          next = λ us ud vs vd b tu tv r (d, f, g).
              stepped_theirs (pointed_by tu ep) (pointed_by tv eq) clear a d
              (z.next tv (pointed_by tu ep) (rw (ap (λ (n : Move). n.v) z.is) at g) (rw (ap (λ (n : Move). n.u) z.is) at f));
        }

    module _ (clear' : above_at wr q wl u ≡ false) where
      pub chooses_done : leb u most_slots && leb v most_slots ≡ true → Chooses wl wr u t v w None
      chooses_done e =
          record { next = λ us ud vs vd b tu tv r (d, f, g). stepped_done (pointed_by tu ep) (pointed_by tv eq) clear clear' e d f g }

      pub chooses_on : leb u most_slots && leb v most_slots ≡ false → Chooses wl wr u t v w (Some (record { u = Advance; v = Advance }))
      chooses_on e =
          record { next = λ us ud vs vd b tu tv r (d, f, g). stepped_on (pointed_by tu ep) (pointed_by tv eq) clear clear' e d f g }
