-- What the definitions of the encoding come to: a call's words are read as that call, the calls run are exactly what the first words encode, their
-- answers fit, and the next call is unreadable or its answer does not fit.
use Rattle.std.specs.Prelude.{◌≡◌, refl, Bool, true, false, ◌&&◌, cond, List, [], ◌∷◌, ◌++◌, ℕ, ◌+◌, ◌*◌, ◌-◌, ◌≤◌, length, take, drop, ℤ, pos, negsuc, leb}
use Rattle.std.proofs.Common.{sym, ◌∙◌, ap, arith, take-add, drop-drop, le-leb, leb-true}
use Rattle.std.proofs.Math.Option.{Option, none, some}
use Rattle.plain.specs.Book.{Call, post, withdraw, query, listing, take_back, report}
use Rattle.replay_words.specs.Encoding.{encode, encoded, listing_of, report_of, short_call, call_of, next_call, stretch, stretches, fitting, first_run}
use Rattle.replay_words.specs.Encoding.{runnable, Run}
use Rattle.replay_words.specs.Decoding.{same_is}
use Rattle.integers.specs.Equal.{equal}

-- ---- encoded and read again

pub read_again : (k : Call) (ws : List ℤ) → next_call (encode k ++ ws) ≡ some k
read_again (post n r b) ws = refl
read_again (withdraw n) ws = refl
read_again (query q) ws = refl
read_again (listing room) ws = refl
read_again take_back ws = refl
read_again (report q p room) ws = refl

-- calls whose answers fit are all run
pub run_again : (ks : List Call) (room : ℕ) → stretches ks ≤ room → runnable (encoded ks) room ≡ ks
unfolding runnable
run_again [] room h = refl
run_again (post n r b ∷ ks) room h = rw (le-leb 5 room (omega arith), run_again ks (room - 5) (omega arith))
run_again (withdraw n ∷ ks) room h = rw (le-leb 5 room (omega arith), run_again ks (room - 5) (omega arith))
run_again (query q ∷ ks) room h = rw (le-leb 5 room (omega arith), run_again ks (room - 5) (omega arith))
run_again (take_back ∷ ks) room h = rw (le-leb 5 room (omega arith), run_again ks (room - 5) (omega arith))
run_again (listing n ∷ ks) room h = rw (le-leb (5 + n) room (omega arith), run_again ks (room - (5 + n)) (omega arith))
run_again (report q p n ∷ ks) room h = rw (le-leb (5 + n) room (omega arith), run_again ks (room - (5 + n)) (omega arith))

-- ---- the words of a call

short_words : (a b : ℤ) {k : Call} → short_call a b ≡ some k → a ∷ b ∷ pos 0 ∷ pos 0 ∷ [] ≡ encode k
short_words a b {k} e = back (equal a (pos 5)) (equal b (pos 0)) refl refl e
  where
    words : (n : ℕ) → equal a (pos n) ≡ true → a ∷ b ∷ pos 0 ∷ pos 0 ∷ [] ≡ pos n ∷ b ∷ pos 0 ∷ pos 0 ∷ []
    words n q = ap (λ (z : ℤ). z ∷ b ∷ pos 0 ∷ pos 0 ∷ []) (same_is a (pos n) q)

    listed : (z : ℤ) → listing_of z ≡ some k → pos 4 ∷ z ∷ pos 0 ∷ pos 0 ∷ [] ≡ encode k
    listed (pos n) q = let r : listing n ≡ k = cc in ap encode r
    listed (negsuc n) q = let z : ◌≡◌ {A = ℕ} 0 1 = cc in absurd (omega arith)

    fourth : (x : Bool) → equal a (pos 4) ≡ x → cond x (listing_of b) none ≡ some k → a ∷ b ∷ pos 0 ∷ pos 0 ∷ [] ≡ encode k
    fourth true f q = words 4 f ∙ listed b q
    fourth false f q = let z : ◌≡◌ {A = ℕ} 0 1 = cc in absurd (omega arith)

    third : (x : Bool) → equal a (pos 3) ≡ x → cond x (some (query b)) (cond (equal a (pos 4)) (listing_of b) none) ≡ some k →
        a ∷ b ∷ pos 0 ∷ pos 0 ∷ [] ≡ encode k
    third true f q = let r : query b ≡ k = cc in words 3 f ∙ ap encode r
    third false f q = fourth (equal a (pos 4)) refl q

    second : (x : Bool) → equal a (pos 2) ≡ x → cond x (some (withdraw b))
        (cond (equal a (pos 3)) (some (query b)) (cond (equal a (pos 4)) (listing_of b) none)) ≡ some k → a ∷ b ∷ pos 0 ∷ pos 0 ∷ [] ≡ encode k
    second true f q = let r : withdraw b ≡ k = cc in words 2 f ∙ ap encode r
    second false f q = third (equal a (pos 3)) refl q

    others : Option Call
    others = cond (equal a (pos 2)) (some (withdraw b)) (cond (equal a (pos 3)) (some (query b)) (cond (equal a (pos 4)) (listing_of b) none))

    back : (x y : Bool) → equal a (pos 5) ≡ x → equal b (pos 0) ≡ y → cond x (cond y (some take_back) none) others ≡ some k →
        a ∷ b ∷ pos 0 ∷ pos 0 ∷ [] ≡ encode k
    back true true f g q =
        let r : take_back ≡ k = cc in (λ i. same_is a (pos 5) f i ∷ same_is b (pos 0) g i ∷ pos 0 ∷ pos 0 ∷ []) ∙ ap encode r
    back true false f g q = let z : ◌≡◌ {A = ℕ} 0 1 = cc in absurd (omega arith)
    back false y f g q = second (equal a (pos 2)) refl q

call_words : (a b c d : ℤ) {k : Call} → call_of a b c d ≡ some k → a ∷ b ∷ c ∷ d ∷ [] ≡ encode k
call_words a b c d {k} e = first (equal a (pos 1)) refl e
  where
    padded : (x y : Bool) → equal c (pos 0) ≡ x → equal d (pos 0) ≡ y → cond (x && y) (short_call a b) none ≡ some k → a ∷ b ∷ c ∷ d ∷ [] ≡ encode k
    padded true true p q f = (λ i. a ∷ b ∷ same_is c (pos 0) p i ∷ same_is d (pos 0) q i ∷ []) ∙ short_words a b f
    padded true false p q f = let z : ◌≡◌ {A = ℕ} 0 1 = cc in absurd (omega arith)
    padded false y p q f = let z : ◌≡◌ {A = ℕ} 0 1 = cc in absurd (omega arith)

    words : (n : ℕ) → equal a (pos n) ≡ true → a ∷ b ∷ c ∷ d ∷ [] ≡ pos n ∷ b ∷ c ∷ d ∷ []
    words n q = ap (λ (z : ℤ). z ∷ b ∷ c ∷ d ∷ []) (same_is a (pos n) q)

    reported : (z : ℤ) → report_of b c z ≡ some k → pos 6 ∷ b ∷ c ∷ z ∷ [] ≡ encode k
    reported (pos n) q = let r : report b c n ≡ k = cc in ap encode r
    reported (negsuc n) q = let z : ◌≡◌ {A = ℕ} 0 1 = cc in absurd (omega arith)

    shorter : Option Call
    shorter = cond (equal c (pos 0) && equal d (pos 0)) (short_call a b) none

    sixth : (x : Bool) → equal a (pos 6) ≡ x → cond x (report_of b c d) shorter ≡ some k → a ∷ b ∷ c ∷ d ∷ [] ≡ encode k
    sixth true f q = words 6 f ∙ reported d q
    sixth false f q = padded (equal c (pos 0)) (equal d (pos 0)) refl refl q

    first : (x : Bool) → equal a (pos 1) ≡ x → cond x (some (post b c d)) (cond (equal a (pos 6)) (report_of b c d) shorter) ≡ some k →
        a ∷ b ∷ c ∷ d ∷ [] ≡ encode k
    first true f q = let r : post b c d ≡ k = cc in words 1 f ∙ ap encode r
    first false f q = sixth (equal a (pos 6)) refl q

-- ---- the calls run

run_none : (calls : List ℤ) (room : ℕ) → fitting (next_call calls) room ≡ false → Run calls room []
run_none calls room f =
    let e : room - 0 ≡ room = omega arith in
    record { words = refl; fits = omega arith; ends = ap (fitting (next_call calls)) e ∙ f }

run_next : (a b c d : ℤ) (ws : List ℤ) (room : ℕ) (k : Call) (ks : List Call) → call_of a b c d ≡ some k → leb (stretch k) room ≡ true →
    Run ws (room - stretch k) ks → Run (a ∷ b ∷ c ∷ d ∷ ws) room (k ∷ ks)
run_next a b c d ws room k ks e f r =
    let h : stretch k ≤ room = leb-true (stretch k) room f in
    let n : 4 * length (k ∷ ks) ≡ 4 + 4 * length ks = omega arith in
    let m : room - stretch k - stretches ks ≡ room - (stretch k + stretches ks) = omega arith in
    record {
      words = ap (λ (i : ℕ). take i (a ∷ b ∷ c ∷ d ∷ ws)) n ∙ take-add 4 (4 * length ks) (a ∷ b ∷ c ∷ d ∷ ws) ∙ (λ i. call_words a b c d e i ++ r.words i);
      fits = omega (arith, r.fits);
      ends = ap (λ (i : ℕ). fitting (next_call (drop i (a ∷ b ∷ c ∷ d ∷ ws))) (room - (stretch k + stretches ks))) n
          ∙ ap (λ (l : List ℤ). fitting (next_call l) (room - (stretch k + stretches ks))) (sym (drop-drop (4 * length ks) 4 (a ∷ b ∷ c ∷ d ∷ ws)))
          ∙ ap (fitting (next_call (drop (4 * length ks) ws))) (sym m) ∙ r.ends;
    }

pub run_reach : (calls : List ℤ) (room : ℕ) → Run calls room (runnable calls room)
unfolding runnable
run_reach [] room = run_none [] room refl
run_reach (a ∷ []) room = run_none (a ∷ []) room refl
run_reach (a ∷ b ∷ []) room = run_none (a ∷ b ∷ []) room refl
run_reach (a ∷ b ∷ c ∷ []) room = run_none (a ∷ b ∷ c ∷ []) room refl
run_reach (a ∷ b ∷ c ∷ d ∷ ws) room = go (call_of a b c d) refl (run_reach ws)
  where
    test : (k : Call) → call_of a b c d ≡ some k → ((m : ℕ) → Run ws m (runnable ws m)) → (x : Bool) → leb (stretch k) room ≡ x →
        Run (a ∷ b ∷ c ∷ d ∷ ws) room (cond x (k ∷ runnable ws (room - stretch k)) [])
    test k e f true q = run_next a b c d ws room k (runnable ws (room - stretch k)) e q (f (room - stretch k))
    test k e f false q = run_none (a ∷ b ∷ c ∷ d ∷ ws) room (ap (λ (o : Option Call). fitting o room) e ∙ q)

    go : (o : Option Call) → call_of a b c d ≡ o → ((m : ℕ) → Run ws m (runnable ws m)) → Run (a ∷ b ∷ c ∷ d ∷ ws) room (first_run o room (runnable ws))
    go none e f = run_none (a ∷ b ∷ c ∷ d ∷ ws) room (ap (λ (o : Option Call). fitting o room) e)
    go (some k) e f = test k e f (leb (stretch k) room) refl
