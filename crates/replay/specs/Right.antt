-- The answers read off the words are the history's, where none of those is `refused 0`, as no answer of the plain book is.
use Rattle.std.specs.Prelude.{◌≡◌, refl, ◌≢◌, Bool, true, false, cond, List, ◌∷◌, ℕ, take, drop, get_or, ℤ, pos, Result, Ok, Err}
use Rattle.std.proofs.Common.{sym, ◌∙◌, ap, subst, arith, get_or-take}
use Rattle.std.proofs.Math.Option.{Option}
use Rattle.integers.specs.Equal.{equal}
use Rattle.plain.specs.Book.{State, Call, post, withdraw, query, listing, take_back, report, Answer, refused, step, answers}
use Rattle.causes.specs.declared.Declined.{Declined}
use Rattle.causes.specs.Numbers.{number_of}
use Rattle.promises.specs.declared.Update.{Update}
use Rattle.promises.specs.declared.Found.{Found}
use Rattle.dynamic.specs.OfferTree.{Held}
use Rattle.table.specs.Items.{Item}
use Rattle.form.specs.Form.{Form}
use Rattle.form.specs.Local.{Alike}
use Rattle.form.proofs.Local.{form_alike}
use Rattle.promises.specs.Promises.{part_of, written_words, counted, update_answer, found_answer, listing_answer, report_answer}
use Rattle.promises.specs.Numbered.{numbered}
use Rattle.history.specs.History.{Happens, posting, withdrawing, taking_back, by_update, by_query, by_listing, by_report, History, finished, next}
use Rattle.history.specs.Claim.{step_capacity, one_call}
use Rattle.replay_words.specs.Encoding.{stretch, update_words, found_words, count_words, accepted_answer, answer_of, told, spared, Spares}
use Rattle.replay_words.specs.Decoding.{same_is}
use Rattle.replay_call.specs.Telling.{TellsOne, Tells}

-- the answer by five words
abbrev by_words : Call → List ℤ → List ℤ → Answer
by_words k five out = answer_of k (get_or five 0 (pos 0)) (get_or five 1 (pos 0)) (get_or five 2 (pos 0)) (get_or five 3 (pos 0)) out

first_words : (k : Call) (ws : List ℤ) {five : List ℤ} (out : List ℤ) → take 5 ws ≡ five → by_words k ws out ≡ by_words k five out
first_words k ws {five} out e = part ∙ ap (λ (l : List ℤ). by_words k l out) e
  where
    part : by_words k ws out ≡ by_words k (take 5 ws) out
    part = rw (
      get_or-take 5 ws 0 (pos 0) (omega arith),
      get_or-take 5 ws 1 (pos 0) (omega arith),
      get_or-take 5 ws 2 (pos 0) (omega arith),
      get_or-take 5 ws 3 (pos 0) (omega arith),
    )

-- a refusal's number is not 0
refusal_told : (k : Call) (c x y z : ℤ) (out : List ℤ) → counted refused c ≢ refused 0 → answer_of k c x y z out ≡ counted refused c
refusal_told k c x y z out f = go (equal c (pos 0)) refl
  where
    go : (b : Bool) → equal c (pos 0) ≡ b → cond b (accepted_answer k x y z out) (counted refused c) ≡ counted refused c
    go true e = absurd (f (ap (counted refused) (same_is c (pos 0) e)))
    go false e = refl

post_told : (n r b : ℤ) (u : Result Update Declined) (out : List ℤ) → update_answer u ≢ refused 0 → by_words (post n r b) (update_words u) out ≡ update_answer u
post_told n r b (Ok u) out f = refl
post_told n r b (Err c) out f = refusal_told (post n r b) (number_of c) (pos 0) (pos 0) (pos 0) out f

withdraw_told : (n : ℤ) (u : Result Update Declined) (out : List ℤ) → update_answer u ≢ refused 0 → by_words (withdraw n) (update_words u) out ≡ update_answer u
withdraw_told n (Ok u) out f = refl
withdraw_told n (Err c) out f = refusal_told (withdraw n) (number_of c) (pos 0) (pos 0) (pos 0) out f

back_told : (u : Result Update Declined) (out : List ℤ) → update_answer u ≢ refused 0 → by_words take_back (update_words u) out ≡ update_answer u
back_told (Ok u) out f = refl
back_told (Err c) out f = refusal_told take_back (number_of c) (pos 0) (pos 0) (pos 0) out f

query_told : (q : ℤ) (a : Result Found Declined) (out : List ℤ) → found_answer a ≢ refused 0 → by_words (query q) (found_words a) out ≡ found_answer a
query_told q (Ok a) out f = refl
query_told q (Err c) out f = refusal_told (query q) (number_of c) (pos 0) (pos 0) (pos 0) out f

listing_told : (room : ℕ) (l : Result ℤ Declined) (out : List ℤ) → listing_answer l (take room out) ≢ refused 0 →
    by_words (listing room) (count_words l) out ≡ listing_answer l (take room out)
listing_told room (Ok m) out f = refl
listing_told room (Err c) out f = refusal_told (listing room) (number_of c) (pos 0) (pos 0) (pos 0) out f

report_told : (q p : ℤ) (room : ℕ) (r : Result ℤ Declined) (out : List ℤ) → report_answer r (take room out) ≢ refused 0 →
    by_words (report q p room) (count_words r) out ≡ report_answer r (take room out)
report_told q p room (Ok m) out f = refl
report_told q p room (Err c) out f = refusal_told (report q p room) (number_of c) (pos 0) (pos 0) (pos 0) out f

one_told : {start : ℕ} {t : List ℤ} {k : Call} {t' : List ℤ} {a : Answer} (p : Happens start t k t' a) (ws ws' : List ℤ) → TellsOne p ws ws' →
    a ≢ refused 0 → by_words k ws' (drop 5 ws') ≡ a
one_told (by_update (posting n r b) u p e) ws ws' h f = first_words (post n r b) ws' (drop 5 ws') h ∙ post_told n r b u (drop 5 ws') (λ q. f (e ∙ q)) ∙ sym e
one_told (by_update (withdrawing n) u p e) ws ws' h f = first_words (withdraw n) ws' (drop 5 ws') h ∙ withdraw_told n u (drop 5 ws') (λ q. f (e ∙ q)) ∙ sym e
one_told (by_update taking_back u p e) ws ws' h f = first_words take_back ws' (drop 5 ws') h ∙ back_told u (drop 5 ws') (λ q. f (e ∙ q)) ∙ sym e
one_told (by_query q u p d e) ws ws' h f = first_words (query q) ws' (drop 5 ws') h ∙ query_told q u (drop 5 ws') (λ z. f (e ∙ z)) ∙ sym e
one_told (by_listing {room} out out' l p m d e) ws ws' (h, b, o) f =
    let q = e ∙ ap (listing_answer l) (sym o) in
    first_words (listing room) ws' (drop 5 ws') h ∙ listing_told room l (drop 5 ws') (λ z. f (q ∙ z)) ∙ sym q
one_told (by_report {room} q p out out' r k m d e) ws ws' (h, b, o) f =
    let u = e ∙ ap (report_answer r) (sym o) in
    first_words (report q p room) ws' (drop 5 ws') h ∙ report_told q p room r (drop 5 ws') (λ z. f (u ∙ z)) ∙ sym u

pub told_right : {c start : ℕ} {t : List ℤ} {ks : List Call} {as' : List Answer} {t' : List ℤ} (h : History c start t ks as' t') (ws ws' : List ℤ) →
    Tells h ws ws' → (s : State) → as' ≡ answers s ks → told ks ws' ≡ as'
told_right finished ws ws' w s e = refl
told_right (next {k} {ks} {a} {as'} alike p rest) ws ws' (x, y) s e =
    let this : a ≡ (step s k).answer = cc in
    let those : as' ≡ answers (step s k).state ks = cc in
    let first = one_told p ws ws' x (λ q. numbered s k (sym this ∙ q)) in
    let others = told_right rest (drop (stretch k) ws) (drop (stretch k) ws') y (step s k).state those in
    λ i. first i ∷ others i

-- ---- what is not written stays

-- an output lent, and what comes back: an answer `a` is told as `b`
behind_stays : {a b : Answer} {lent back out out' : List ℤ} → a ≡ b → lent ≡ out → back ≡ out' →
    drop (written_words b) out' ≡ drop (written_words b) out → drop (written_words a) back ≡ drop (written_words a) lent
behind_stays {a} {b} {lent} {back} e y z later =
    ap (λ (x : Answer). drop (written_words x) back) e ∙ ap (drop (written_words b)) z ∙ later ∙ ap (drop (written_words b)) (sym y)
    ∙ ap (λ (x : Answer). drop (written_words x) lent) (sym e)

one_spares :
    {start : ℕ} {t : List ℤ} {k : Call} {t' : List ℤ} {a : Answer} (p : Happens start t k t' a) (ws ws' : List ℤ) → TellsOne p ws ws' →
    (s : State) (held : Option (Held Item)) → Form (part_of t start) s held → spared k a ws' ≡ spared k a ws
one_spares (by_update (posting n r b) u p e) ws ws' w s held form = refl
one_spares (by_update (withdrawing n) u p e) ws ws' w s held form = refl
one_spares (by_update taking_back u p e) ws ws' w s held form = refl
one_spares (by_query q f p d e) ws ws' w s held form = refl
one_spares (by_listing out out' l p m d e) ws ws' (x, y, z) s held form = behind_stays e y z (p.later s held form.book)
one_spares (by_report q p out out' r k m d e) ws ws' (x, y, z) s held form = behind_stays e y z (k.later s held form.book)

pub spares_right :
    {c start : ℕ} {t : List ℤ} {ks : List Call} {as' : List Answer} {t' : List ℤ} (h : History c start t ks as' t') (ws ws' : List ℤ) → Tells h ws ws' →
    (s : State) (held : Option (Held Item)) → s.capacity ≡ c → Form (part_of t start) s held → Spares ks as' ws ws'
spares_right finished ws ws' w s held same form = tt
spares_right {start = start} (next {t} {t₁} {k = k} alike p rest) ws ws' (x, y) s held same form =
    let here = form_alike form (subst (λ (n : ℕ). Alike n (part_of t start) (part_of t₁ start)) (sym same) alike) in
    let o = one_call s held p here in (
      one_spares p ws ws' x s held here,
      spares_right rest (drop (stretch k) ws) (drop (stretch k) ws') y (step s k).state o.mid
          (step_capacity s k ∙ same) o.stands,
    )
