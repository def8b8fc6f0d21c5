-- An update remembered, and the last one undone: what the code's parts promise, put together.
use Rattle.std.specs.Prelude.{◌≡◌, refl, Bool, true, false, List, [], ◌∷◌, ℕ, ◌≤◌, ◌<◌, ℤ, Result, Ok, Err}
use Rattle.std.specs.Result.{is_err}
use Rattle.std.proofs.Common.{sym, ◌∙◌, ap, subst, arith}
use Rattle.std.proofs.Math.Option.{Option}
use Rattle.offers.specs.Offers.{Offer}
use Rattle.plain.specs.Causes.{Clear}
use Rattle.plain.specs.Book.{State, Undo, unpost, restore, Outcome, Call, post, withdraw, live, refused, join, leave, undone, undoing, Undoable, trials}
use Rattle.plain.specs.Book.{book_trials, recalling, remember, step}
use Rattle.plain.specs.Rules.{refusing, withdraws}
use Rattle.plain.proofs.Rules.{posts}
use Rattle.plain.specs.Sound.{length_join, tried_recalling}
use Rattle.plain.specs.Trials.{first_append}
use Rattle.plain.proofs.Undoing.{accepted_recallable}
use Rattle.plain.specs.Entries.{names_first}
use Rattle.dynamic.specs.OfferTree.{Held}
use Rattle.table.specs.Fields.{base_field, most_nodes, number_field, number_tree, numbers_root_word, rate_field}
use Rattle.table.specs.Words.{Words, word, up_to}
use Rattle.table.specs.Layout.{cell}
use Rattle.table.specs.Items.{Item}
use Rattle.form.specs.Form.{Form}
use Rattle.form.specs.Memory.{Ring, posted, withdrawn}
use Rattle.form.specs.Live.{book_sound}
use Rattle.memory.specs.Ring.{LastOf, Reads, of_post, of_withdrawal, Remembering, Forgetting}
use Rattle.memory.specs.declared.Entry.{Entry}
use Rattle.index.specs.Index.{FoundKey}
use Rattle.declining.specs.Sought.{number_sought}
use Rattle.declining.specs.Declining.{withdraw_missing}
use Rattle.declining.specs.PartCauses.{PostCause}
use Rattle.filing.specs.Withdrawing.{live_at}
use Rattle.filing.specs.PartUpdates.{PostDone, WithdrawDone}
use Rattle.filing.specs.declared.Told.{Told}
use Rattle.promises.specs.declared.Update.{Update}
use Rattle.causes.specs.declared.Declined.{Declined}
use Rattle.causes.specs.declared.Declined.TheVariants.{NothingToTakeBack}
use Rattle.promises.specs.OneCause.{not_clear}
use Rattle.recording.specs.Ranges.{RangeCause}
use Rattle.recording.specs.Recording.{update_of, Recorded, PostKept, WithdrawKept, Undoes, TakesBack}
use Rattle.recording.specs.Recorded.{inside_both, inside_same, recorded, some_room, undo_of_slot}

-- ---- an update remembered

pub post_kept : (o : Offer) {w w₁ w' : Words} {t : Told} {u : Update} → PostDone o w w₁ t → Remembering posted o.number o.rate o.base w₁ w' →
    u ≡ update_of t → PostKept o w w' u
post_kept o {t = t} g m e =
    record {
      inside = inside_both g.kept m.only;
      told = t;
      answer = e;
      done = λ plain held f clear new.
          let (updated, count) = g.done plain held f.book new in
          recorded (join o plain.offers) (remember (unpost o.number ∷ []) plain.memory) f g.kept updated m.only
          (m.ring (unpost o.number) plain.memory of_post (some_room f g.kept))
          (accepted_recallable plain (post o.number o.rate o.base) (book_sound f.book) f.memory.undoable clear)
          (count ∙ sym (length_join o plain.offers));
    }

pub withdraw_kept : (n r z : ℤ) {w w₁ w' : Words} {s : ℕ} {t : Told} {u : Update} → r ≡ cell w rate_field s → z ≡ cell w base_field s →
    WithdrawDone n s w w₁ t → Remembering withdrawn n r z w₁ w' → u ≡ update_of t → WithdrawKept n s w w' u
withdraw_kept n r z {w' = w'} {t = t} er ez g m e =
    record {
      inside = inside_both g.kept m.only;
      told = t;
      answer = e;
      done = λ plain held f clear found low.
          let (updated, count) = g.done plain held f.book found low in
          let (a, there) = live_at (number_sought f.book found refl) (λ q. omega (arith, q, low)) in
          let entry = undo_of_slot f.book there er ez in
          recorded (leave n plain.offers) _ f g.kept updated m.only
          (λ ring. subst (λ (us : List Undo). Ring w' (remember us plain.memory)) (sym entry)
          (m.ring (restore (record { number = n; rate = r; base = z })) plain.memory of_withdrawal (some_room f g.kept) ring))
          (accepted_recallable plain (withdraw n) (book_sound f.book) f.memory.undoable clear) count;
    }

-- ---- the last one undone

-- a call that nothing declines is not refused
not_refused : (s : State) (k : Call) {next : State} {i m : ℕ} → step s k ≡ record { state = next; answer = live i } → step s k ≡ refusing s m → ⊥
not_refused s k {i = i} {m} e d = let q : live i ≡ refused m = sym (ap (λ (o : Outcome). o.answer) e) ∙ ap (λ (o : Outcome). o.answer) d in
    let x : ◌≡◌ {A = ℕ} 0 1 = cc in omega arith

-- what the form says of the last entry
last_clear : {w : Words} {plain : State} {held : Option (Held Item)} {v : Undo} {us : List Undo} → Form w plain held → plain.memory ≡ v ∷ us →
    Clear (trials plain (undoing v)) × Undoable plain.capacity (undone v plain.offers) us
last_clear {plain = plain} {v = v} {us} f e =
    let (clear, rest) = subst (Undoable plain.capacity plain.offers) e f.memory.undoable in
    (tried_recalling plain us plain.memory v clear, rest)

-- nothing is done
pub undoes_declined : (v : Undo) {w w' : Words} {u : Result Update Declined} → w' ≡ w →
    ((plain : State) (held : Option (Held Item)) (us : List Undo) → Form w plain held → plain.memory ≡ v ∷ us → ⊥) → Undoes v w w' u
undoes_declined v e never =
    record { inside = inside_same e; refusal = λ z d. e; done = λ plain held us f m. absurd (never plain held us f m) }

module _ (n : ℤ) {w : Words} {s : ℕ} (found : FoundKey number_tree number_field n (up_to most_nodes (word w numbers_root_word)) w s) where
  pub undo_missing : {w' : Words} {u : Result Update Declined} → s < 1 → w' ≡ w → Undoes (unpost n) w w' u
  undo_missing l e =
      undoes_declined (unpost n) e (λ plain held us f m.
      let (clear, rest) = last_clear f m in
      not_refused plain (withdraw n) (withdraws plain n clear)
      (withdraw_missing f.book n (clear.0, tt) (number_sought f.book found refl) (omega (arith, l))))

  pub undo_post : {w₁ w' : Words} {t : Told} {u : Result Update Declined} → 1 ≤ s → WithdrawDone n s w w₁ t → Forgetting w₁ w' →
      u ≡ Ok (update_of t) → Undoes (unpost n) w w' u
  undo_post {w₁} {w'} {t} l g m e =
      record {
        inside = inside_both g.kept m.only;
        refusal = λ z d. cc;
        done = λ plain held us f em.
            let (clear, rest) = last_clear f em in
            let (updated, count) = g.done plain held f.book found l in (
              t,
              e,
              recorded (leave n plain.offers) us f g.kept updated m.only (λ ring. m.ring (unpost n) us (subst (Ring w₁) em ring)) rest count,
            );
      }

-- what a test tells of its `Result`
failed : (r : Result (Unit {0}) Declined) {b : Bool} → b ≡ is_err r → b ≡ true → (c : Declined) × (r ≡ Err c)
failed (Ok u) e h = cc
failed (Err c) e h = (c, refl)

passed : (r : Result (Unit {0}) Declined) {b : Bool} → b ≡ is_err r → b ≡ false → r ≡ Ok tt
passed (Ok u) e h = refl
passed (Err c) e h = cc

module _ (n r z : ℤ) {w : Words} {i : Result (Unit {0}) Declined} (range : RangeCause (post n r z) i) {b : Bool} (tested : b ≡ is_err i) where
  pub undo_range : {w' : Words} {u : Result Update Declined} → b ≡ true → w' ≡ w → Undoes (restore (record { number = n; rate = r; base = z })) w w' u
  undo_range h e =
      undoes_declined (restore (record { number = n; rate = r; base = z })) e (λ plain held us f m.
      let (c, l) = failed i tested h in
      let (number, d, names) = range.names c l in
      let (k, first, p) = names_first names in
      not_clear (first_append (book_trials plain (post n r z)) first) (last_clear f m).0)

  module _ (h : b ≡ false) {m : Result (Unit {0}) Declined} (cause : PostCause n w m) {d : Bool} (tried : d ≡ is_err m) where
    q : i ≡ Ok tt
    q = passed i tested h

    pub undo_cause : {w' : Words} {u : Result Update Declined} → d ≡ true → w' ≡ w → Undoes (restore (record { number = n; rate = r; base = z })) w w' u
    undo_cause k e =
        undoes_declined (restore (record { number = n; rate = r; base = z })) e (λ plain held us f em.
        let (c, l) = failed m tried k in
        let (number, low, p, declines) = cause.declines c l in
        not_refused plain (post n r z) (posts plain n r z (last_clear f em).0) (declines r z plain held f.book (range.clears q)))

    pub undo_withdrawal :
        {w₁ w' : Words} {t : Told} {u : Result Update Declined} → d ≡ false → PostDone (record { number = n; rate = r; base = z }) w w₁ t →
        Forgetting w₁ w' → u ≡ Ok (update_of t) →
        Undoes (restore (record { number = n; rate = r; base = z })) w w' u
    undo_withdrawal {w₁} {t = t} l g forgets e =
        record {
          inside = inside_both g.kept forgets.only;
          refusal = λ y d. cc;
          done = λ plain held us f em.
              let (clear, rest) = last_clear f em in
              let (_, new) = cause.clears (passed m tried l) r z plain held f.book (range.clears q) in
              let (updated, count) = g.done plain held f.book new in (
                t,
                e,
                recorded (join o plain.offers) us f g.kept updated forgets.only
                    (λ ring. forgets.ring (restore o) us (subst (Ring w₁) em ring)) rest (count ∙ sym (length_join o plain.offers)),
              );
        }
      where
        o : Offer
        o = record { number = n; rate = r; base = z }

-- ---- by what the last entry tells

module _ {w : Words} {e : Entry} (last : LastOf w e) where
  reads : {plain : State} {held : Option (Held Item)} {us : List Undo} → Form w plain held → plain.memory ≡ us → Reads us e
  reads {us = us} f m = last.reads us (subst (Ring w) m f.memory.ring)

  pub takes_post : {w' : Words} {u : Result Update Declined} → e.done ≡ posted → Undoes (unpost e.number) w w' u → TakesBack w w' u
  takes_post {w'} {u} d g =
      record {
        inside = g.inside;
        refusal = g.refusal;
        nothing = λ plain held f m. absurd (let r = reads f m in omega (arith, r, d));
        done = λ plain held v us f m. go plain held v us f m (reads f m);
      }
    where
      go : (plain : State) (held : Option (Held Item)) (v : Undo) (us : List Undo) → Form w plain held → plain.memory ≡ v ∷ us → Reads (v ∷ us) e →
          (t : Told) × (u ≡ Ok (update_of t)) × Recorded w' (recalling plain (undone v plain.offers) us) held t
      go plain held (unpost n) us f m (k, en) =
          subst (λ (i : ℤ). (t : Told) × (u ≡ Ok (update_of t)) × Recorded w' (recalling plain (leave i plain.offers) us) held t)
          en (g.done plain held us f (m ∙ ap (λ (i : ℤ). unpost i ∷ us) (sym en)))
      go plain held (restore o) us f m (k, eo) = absurd (omega (arith, k, d))

  pub takes_withdrawal :
      {w' : Words} {u : Result Update Declined} → e.done ≡ withdrawn → Undoes (restore (record { number = e.number; rate = e.rate; base = e.base })) w w' u →
      TakesBack w w' u
  takes_withdrawal {w'} {u} d g =
      record {
        inside = g.inside;
        refusal = g.refusal;
        nothing = λ plain held f m. absurd (let r = reads f m in omega (arith, r, d));
        done = λ plain held v us f m. go plain held v us f m (reads f m);
      }
    where
      go : (plain : State) (held : Option (Held Item)) (v : Undo) (us : List Undo) → Form w plain held → plain.memory ≡ v ∷ us → Reads (v ∷ us) e →
          (t : Told) × (u ≡ Ok (update_of t)) × Recorded w' (recalling plain (undone v plain.offers) us) held t
      go plain held (unpost n) us f m (k, en) = absurd (omega (arith, k, d))
      go plain held (restore o) us f m (k, eo) = subst (λ (p : Offer). (t : Told) × (u ≡ Ok (update_of t)) ×
          Recorded w' (recalling plain (join p plain.offers) us) held t) eo (g.done plain held us f (m ∙ ap (λ (p : Offer). restore p ∷ us) (sym eo)))

  pub takes_nothing : {w' : Words} {u : Result Update Declined} → (e.done ≡ posted → ⊥) → (e.done ≡ withdrawn → ⊥) → u ≡ Err NothingToTakeBack → w' ≡ w →
      TakesBack w w' u
  takes_nothing {w'} {u} p q eu ew =
      record {
        inside = inside_same ew;
        refusal = λ z d. ew;
        nothing = λ plain held f m. eu;
        done = λ plain held v us f m. absurd (some plain v us (reads f m));
      }
    where
      some : (plain : State) (v : Undo) (us : List Undo) → Reads (v ∷ us) e → ⊥
      some plain (unpost n) us (k, en) = p k
      some plain (restore o) us (k, eo) = q k
