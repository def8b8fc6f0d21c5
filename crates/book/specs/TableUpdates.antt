-- A post, a withdrawal and a take-back on a lent table: what the code's guards and its work on the part promise, put together.
use Rattle.std.specs.Prelude.{◌≡◌, refl, Bool, true, false, List, [], ◌∷◌, ◌++◌, ℕ, ◌-◌, ◌≤◌, ◌<◌, length, take, drop, ℤ, pos, Result, Ok, Err}
use Rattle.std.proofs.Common.{sym, ◌∙◌, ap, subst, arith, take-append-drop}
use Rattle.std.proofs.Math.Option.{Option}
use Rattle.lists.specs.Bools.{said, denied}
use Rattle.plain.specs.Causes.{Cause, cause_number, FirstOf, at_once, further, Clear}
use Rattle.plain.specs.Book.{State, Undo, Call, post, withdraw, take_back, live, refused, no_book_at, undone, recalling, step}
use Rattle.dynamic.specs.OfferTree.{Held}
use Rattle.table.specs.Fields.{capacity_word, most_nodes, number_field, number_tree, numbers_root_word}
use Rattle.table.specs.Words.{Words, word, up_to}
use Rattle.table.specs.Layout.{cap}
use Rattle.table.specs.Items.{Item}
use Rattle.form.specs.Form.{Book, Form}
use Rattle.index.specs.Index.{FoundKey}
use Rattle.promises.specs.declared.Update.{Update}
use Rattle.causes.specs.declared.Declined.{Declined}
use Rattle.causes.specs.declared.Declined.TheVariants.{NoBook, NotLive, NothingToTakeBack}
use Rattle.causes.specs.Numbers.{number_of}
use Rattle.promises.specs.Promises.{part_of, capacity_at, table_trials, counted, update_answer, Updates, Follows}
use Rattle.declining.specs.Sought.{number_sought}
use Rattle.plain.specs.Rules.{refusing, step_accepted, posted, withdrawn, takes_back}
use Rattle.plain.proofs.Rules.{nothing_taken}
use Rattle.plain.specs.Entries.{names_first}
use Rattle.declining.specs.Declining.{withdraw_missing, withdraw_clear}
use Rattle.form.specs.There.{cap_there}
use Rattle.promises.specs.Plainly.{table_declined}
use Rattle.recording.specs.Ranges.{RangeCause, back_in}
use Rattle.recording.specs.Recording.{update_of, Inside, Recorded, PostKept, WithdrawKept, TakesBack}
use Rattle.book.specs.Following.{follows_declined, done_follows}
use Rattle.promises.specs.LentPart.{part_back, only_part, only_same, whole_part, lent_back, book_cap, book_start}
use Rattle.promises.specs.OneCause.{one_cause, not_clear}
use Rattle.filing.specs.declared.Told.{Told}
use Rattle.declining.specs.PartCauses.{PostCause}

-- ---- where there is a book

-- the words lent
abbrev lent : List ℤ → ℕ → Words
lent t start = take (length t - start) (drop start t)

module _ (k : Call) (start : ℕ) (t t' : List ℤ) where
  updates_declined : {z : Cause} {r : Result Update Declined} {c : Declined} → FirstOf (table_trials t start k) z → r ≡ Err c →
      number_of c ≡ pos (cause_number z) → t' ≡ t → Updates k start t t' r
  updates_declined f er ec et =
      record {
        declined = λ z g. (ap update_answer er ∙ ap (counted refused) ec ∙ ap refused (sym (one_cause f g)), et);
        refusal = λ c d. et;
        outside = only_same et;
        same_part = ap (λ (u : List ℤ). word (part_of u start) capacity_word) et;
        follows = λ plain held b. follows_declined start t k b (table_declined start t k b.book f) er ec et;
      }

  module _ {b : Bool} (e : b ≡ no_book_at (length t) start (word (part_of t start) capacity_word)) where
    pub updates_none : b ≡ true → t' ≡ t → Updates k start t t' (Err NoBook)
    updates_none h et = updates_declined (at_once (said e h)) refl refl et

    module _ {i : Result (Unit {0}) Declined} (h : b ≡ false) (o : RangeCause k i) where
      pub updates_range : {c : Declined} {r : Result Update Declined} → i ≡ Err c → r ≡ Err c → t' ≡ t → Updates k start t t' r
      updates_range {c} q er et =
          let (m, ec, names) = o.names c q in
          let (z, f, n) = names_first names in updates_declined (further (denied e h) f) er (ec ∙ ap pos (sym n)) et

      module _ (q : i ≡ Ok tt) where
        clear : Clear (table_trials t start k)
        clear = (denied e h, o.clears q)

        pub updates_refused :
            {m : ℕ} {r : Result Update Declined} {c : Declined} →
            ((plain : State) (held : Option (Held Item)) → Book (lent t start) plain held → step plain k ≡ refusing plain m) →
            r ≡ Err c → number_of c ≡ pos m → t' ≡ t → Updates k start t t' r
        updates_refused f er ec et =
            record {
              declined = λ z g. absurd (not_clear g clear);
              refusal = λ c d. et;
              outside = only_same et;
              same_part = ap (λ (u : List ℤ). word (part_of u start) capacity_word) et;
              follows = λ plain held b. follows_declined start t k b
                  (f plain held (subst (λ (u : Words). Book u plain held) (sym (whole_part t start)) b.book))
                  er ec et;
            }

        pub updates_by :
            {r : Result Update Declined} → ((c : Declined) → r ≡ Err c → t' ≡ t) → (w' : Words) →
            t' ≡ take start t ++ (w' ++ drop (length t - start) (drop start t)) → Inside (lent t start) w' →
            ((plain : State) (held : Option (Held Item)) → Form (lent t start) plain held → part_of t' start ≡ w' → Follows k plain held start t t' r) →
            Updates k start t t' r
        updates_by refuses w' et g f =
            record {
              declined = λ z g. absurd (not_clear g clear);
              refusal = refuses;
              outside = only_part t start w' back low (record {
                long = kept.beyond.long;
                rest = λ i l. kept.beyond.rest i (omega (arith, l, (book_cap t start (denied e h)).0));
              });
              same_part = ap (λ (u : Words). word u capacity_word) (part_back t start w' back low) ∙ (cap_there w' (kept.room ∙ there.0) there.1).first
                  ∙ sym (cap_there (part_of t start) there.0 there.1).first;
              follows = λ plain held b. f plain held (subst (λ (u : Words). Form u plain held) (sym (whole_part t start)) b) (part_back t start w' back low);
            }
          where
            there : (cap (part_of t start) ≡ capacity_at t start) × (1 ≤ capacity_at t start)
            there = book_cap t start (denied e h)

            back : t' ≡ take start t ++ w'
            back = lent_back t start w' et

            low : start ≤ length t
            low = book_start t start e h

            kept : Inside (part_of t start) w'
            kept = subst (λ (u : Words). Inside u w') (whole_part t start) g

-- ---- the three calls

module _ (start : ℕ) (t t' : List ℤ) {b : Bool} (e : b ≡ no_book_at (length t) start (word (part_of t start) capacity_word)) (h : b ≡ false) where
  -- the part as an accepted update leaves it
  module _ (k : Call) {i : Result (Unit {0}) Declined} (o : RangeCause k i) (q : i ≡ Ok tt) {told : Told} {u : Update} (eu : u ≡ update_of told)
      (w' : Words)
      (et : t' ≡ take start t ++ (w' ++ drop (length t - start) (drop start t))) (inside : Inside (lent t start) w')
      (next : State → State) where
    accepted : ((plain : State) (held : Option (Held Item)) → Form (lent t start) plain held →
        Recorded w' (next plain) held told × (step plain k ≡ record { state = next plain; answer = live (length (next plain).offers) })) →
        Updates k start t t' (Ok u)
    accepted f =
        updates_by k start t t' e h o q (λ c d. cc) w' et inside
        (λ plain held b p.
        let (g, s) = f plain held b in
        done_follows start t k b.book (subst (λ (v : Words). Recorded v (next plain) held told) (sym p) g) s (ap Ok eu))

  module _ (n r z : ℤ) {i : Result (Unit {0}) Declined} (o : RangeCause (post n r z) i) (q : i ≡ Ok tt) {m : Result (Unit {0}) Declined}
      (cause : PostCause n (lent t start) m) where
    pub post_refused : {c : Declined} {u : Result Update Declined} → m ≡ Err c → u ≡ Err c → t' ≡ t → Updates (post n r z) start t t' u
    post_refused {c} l eu et =
        let (number, low, ec, declines) = cause.declines c l in
        updates_refused (post n r z) start t t' e h o q (λ plain held b. declines r z plain held b (o.clears q)) eu ec et

    pub post_accepted :
        {u : Update} → m ≡ Ok tt → (w' : Words) → PostKept (record { number = n; rate = r; base = z }) (lent t start) w' u →
        t' ≡ take start t ++ (w' ++ drop (length t - start) (drop start t)) →
        Updates (post n r z) start t t' (Ok u)
    post_accepted l w' g et =
        accepted (post n r z) o q g.answer w' et g.inside (λ plain. posted plain n r z)
        (λ plain held f.
        let (clear, new) = cause.clears l r z plain held f.book (o.clears q) in (g.done plain held f clear new, step_accepted plain (post n r z) clear))

  module _ (n : ℤ) {i : Result (Unit {0}) Declined} (o : RangeCause (withdraw n) i) (q : i ≡ Ok tt) {s : ℕ}
      (f : FoundKey number_tree number_field n (up_to most_nodes (word (lent t start) numbers_root_word)) (lent t start) s) where
    pub withdraw_refused : s < 1 → t' ≡ t → Updates (withdraw n) start t t' (Err NotLive)
    withdraw_refused l et = updates_refused (withdraw n) start t t' e h o q (λ plain held b. withdraw_missing b n (o.clears q) (number_sought b f refl)
        (omega (arith, l))) refl refl et

    pub withdraw_accepted :
        {u : Update} → 1 ≤ s → (w' : Words) → WithdrawKept n s (lent t start) w' u →
        t' ≡ take start t ++ (w' ++ drop (length t - start) (drop start t)) →
        Updates (withdraw n) start t t' (Ok u)
    withdraw_accepted l w' g et =
        accepted (withdraw n) o q g.answer w' et g.inside (λ plain. withdrawn plain n)
        (λ plain held b.
        let clear = withdraw_clear b.book n (o.clears q) (number_sought b.book f refl) (λ x. omega (arith, x, l)) in
        (g.done plain held b clear f l, step_accepted plain (withdraw n) clear))

  pub taken_back : {u : Result Update Declined} (w' : Words) → TakesBack (lent t start) w' u →
      t' ≡ take start t ++ (w' ++ drop (length t - start) (drop start t)) → Updates take_back start t t' u
  taken_back {u} w' g et =
      updates_by take_back start t t' e h back_in refl unchanged w' et g.inside
      (λ plain held f p. by plain held f p plain.memory refl)
    where
      unchanged : (c : Declined) → u ≡ Err c → t' ≡ t
      unchanged c d =
          et ∙ ap (λ (v : Words). take start t ++ (v ++ drop (length t - start) (drop start t))) (g.refusal c d)
          ∙ ap (λ (v : Words). take start t ++ v) (take-append-drop (length t - start) (drop start t)) ∙ take-append-drop start t

      by : (plain : State) (held : Option (Held Item)) → Form (lent t start) plain held → part_of t' start ≡ w' → (m : List Undo) → plain.memory ≡ m →
          Follows take_back plain held start t t' u
      by plain held f p [] em =
          let eu = g.nothing plain held f em in
          follows_declined start t take_back (subst (λ (v : Words). Form v plain held) (whole_part t start) f) (nothing_taken plain em) eu refl
          (unchanged NothingToTakeBack eu)
      by plain held f p (v ∷ us) em =
          let (told, eu, r) = g.done plain held v us f em in
          done_follows start t take_back f.book
          (subst (λ (x : Words). Recorded x (recalling plain (undone v plain.offers) us) held told) (sym p) r) (takes_back plain v us em) eu
