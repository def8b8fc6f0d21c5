-- Opening, step by step: what the code's parts promise of the words lent to them, and put together.
use Rattle.std.specs.Prelude.{◌≡◌, refl, Bool, true, false, not, ◌||◌, List, ◌++◌, ℕ, suc, ◌-◌, ◌≤◌, ◌<◌, length, take, drop, T, ltb, ℤ, pos, nat_abs, Ok, Err}
use Rattle.std.proofs.Common.{sym, ◌∙◌, ap, subst, arith, lt→ltb}
use Rattle.std.proofs.Math.Option.{Option, none}
use Rattle.std.proofs.Math.Arith.{lt→nleb}
use Rattle.lists.specs.Bools.{not_not, or_left, or_right, not_either, said, denied}
use Rattle.offers.specs.Offers.{between}
use Rattle.plain.specs.Trials.{declined_by, not_declined}
use Rattle.plain.specs.Causes.{Cause, cause_number, FirstOf, at_once, further, Clear}
use Rattle.plain.specs.Book.{opened, open_trials, opening_by, part_length}
use Rattle.table.specs.Fields.{most_slots}
use Rattle.table.specs.Words.{Words, up_to}
use Rattle.form.specs.Form.{Form}
use Rattle.causes.specs.declared.Declined.{Declined}
use Rattle.causes.specs.declared.Declined.TheVariants.{Capacity, NoRoom}
use Rattle.causes.specs.Numbers.{number_of}
use Rattle.promises.specs.Promises.{part_of, Opens, OnlyPart}
use Rattle.promises.specs.OneCause.{one_cause, not_clear}
use Rattle.promises.specs.LentPart.{part_back, only_part, whole_part, lent_back, told_is}
use Rattle.form.specs.Local.{Beyond}
use Rattle.opening.specs.Starting.{Starts}

module _ (c : ℤ) (start : ℕ) (t t' : List ℤ) where
  opens_declined : {d : Declined} {k : Cause} → FirstOf (open_trials (length t) start c) k → number_of d ≡ pos (cause_number k) → t' ≡ t →
      Opens c start t t' (Err d)
  opens_declined {d} {k} f e et = record {
    answers = e ∙ ap (λ (o : Option Cause). pos (opening_by o)) (sym (declined_by (open_trials (length t) start c) k f));
    declined = λ z g. ((d, refl, e ∙ ap pos (sym (one_cause f g))), et);
    accepted = λ g. absurd (not_clear f g);
  }

  pub opens_range : {b : Bool} → b ≡ not (between (pos 1) (pos most_slots) c) → b ≡ true → t' ≡ t → Opens c start t t' (Err Capacity)
  opens_range e h et = opens_declined (at_once (said e h)) refl et

  opens_short : {b : Bool} → b ≡ not (between (pos 1) (pos most_slots) c) → b ≡ false →
      T (ltb (length t) start || ltb (length t - start) (part_length (nat_abs c))) → t' ≡ t → Opens c start t t' (Err NoRoom)
  opens_short e h s et = opens_declined (further (denied e h) (at_once s)) refl et

  pub opens_beyond : {b : Bool} → b ≡ not (between (pos 1) (pos most_slots) c) → b ≡ false → length t < start → t' ≡ t → Opens c start t t' (Err NoRoom)
  opens_beyond e h s et = opens_short e h (or_left (ltb (length t) start) (ltb (length t - start) (part_length (nat_abs c))) (lt→ltb (length t) start s)) et

  module _ {b : Bool} {n : ℕ} (e : b ≡ not (between (pos 1) (pos most_slots) c)) (h : b ≡ false) (d : n ≡ up_to most_slots c) where
    ranged : T (between (pos 1) (pos most_slots) c)
    ranged = not_not (between (pos 1) (pos most_slots) c) (denied e h)

    is_capacity : n ≡ nat_abs c
    is_capacity = d ∙ (told_is c ranged).0

    pub capacity_span : (1 ≤ n) × (n ≤ most_slots)
    capacity_span = let (p, q, r) = told_is c ranged in (omega (arith, is_capacity, q), omega (arith, is_capacity, r))

    pub opens_cut : length t - start < part_length n → t' ≡ t → Opens c start t t' (Err NoRoom)
    opens_cut s et = opens_short e h (or_right (ltb (length t) start) (ltb (length t - start) (part_length (nat_abs c)))
        (lt→ltb (length t - start) (part_length (nat_abs c)) (omega (arith, s, is_capacity)))) et

    pub opens_done : start ≤ length t → part_length n ≤ length t - start → (w' : Words) → Starts n (take (length t - start) (drop start t)) w' →
        t' ≡ take start t ++ (w' ++ drop (length t - start) (drop start t)) → Opens c start t t' (Ok tt)
    opens_done low room w' g et =
        record {
          answers = ap (λ (d : Option Cause). pos (opening_by d)) (sym (not_declined (open_trials (length t) start c) clears));
          declined = λ z f. absurd (not_clear f clears);
          accepted = λ k. (
            refl,
            subst (λ (m : ℕ). Form (part_of t' start) (opened (pos m)) none) is_capacity
                (subst (λ (u : Words). Form u (opened (pos n)) none) (sym (part_back t start w' back low)) g.stands),
            subst (λ (m : ℕ). OnlyPart m start t t') is_capacity
                (only_part t start w' back low (subst (λ (u : Words). Beyond n u w') (whole_part t start) g.beyond)),
          );
        }
      where
        back : t' ≡ take start t ++ w'
        back = lent_back t start w' et

        clears : Clear (open_trials (length t) start c)
        clears = (
          denied e h,
          (
            not_either (ltb (length t) start) (ltb (length t - start) (part_length (nat_abs c)))
                (lt→nleb (suc (length t)) start (omega (arith, low)))
                (lt→nleb (suc (length t - start)) (part_length (nat_abs c)) (omega (arith, room, is_capacity))),
            tt,
          ),
        )
