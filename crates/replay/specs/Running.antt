-- A run under way: what is done so far makes, with whatever is made of the calls that are left, the whole.
use Rattle.std.specs.Prelude.{◌≡◌, refl, false, ℕ, ◌+◌, ◌*◌, ◌-◌, ◌≤◌, ◌<◌, take, drop, ℤ, nat_abs}
use Rattle.std.proofs.Math.Path.{sym, ap}
use Rattle.std.proofs.Common.{◌∙◌, subst, take-append-drop, take_at, drop_at, take-add, take-take, length-take-le, leb-true}
use mathlib.Core.List.{List, [], ◌∷◌, ◌++◌, append_assoc}
use native.Mathlib.Omega.{arith}
use Rattle.std.proofs.Math.ListN.{length, length-append, length-drop}
use Rattle.std.proofs.Math.Seq.{drop-drop}
use Rattle.std.proofs.lemmas.List.{take-append-le, drop-append-le}
use Rattle.plain.specs.Book.{Call, Answer}
use Rattle.promises.specs.Promises.{part_of, capacity_at, OnlyPart}
use Rattle.promises.specs.LentPart.{whole_part, lent_back, only_same}
use Rattle.form.specs.Local.{Alike}
use Rattle.history.specs.History.{Happens, posting, withdrawing, taking_back, by_update, by_query, by_listing, by_report, finished, next}
use Rattle.replay_words.specs.Encoding.{next_call, stretch, fitting, runnable}
use Rattle.replay_words.specs.Decoding.{runnable_none, runnable_next, next_words}
use Rattle.replay_call.specs.Telling.{TellsOne, Tells}
use Rattle.replay_call.specs.OneCall.{Performed, Ready, Step}
use Rattle.replay.specs.Promises.{Made}

-- ---- one call stays in the part

pub only_then : {c c' start : ℕ} {t t₁ t₂ : List ℤ} → OnlyPart c start t t₁ → c' ≡ c → OnlyPart c' start t₁ t₂ → OnlyPart c start t t₂
only_then {c} {c'} {start} {t} {t₁} {t₂} f e g =
    let h : OnlyPart c start t₁ t₂ = subst (λ (n : ℕ). OnlyPart n start t₁ t₂) e g in
    record { long = h.long ∙ f.long; front = h.front ∙ f.front; back = h.back ∙ f.back }

record Inside (start : ℕ) (t t' : List ℤ) : Type 0 where
  outside : OnlyPart (capacity_at t start) start t t'
  same_part : capacity_at t' start ≡ capacity_at t start

inside_same : {start : ℕ} {t t' : List ℤ} → t' ≡ t → Inside start t t'
inside_same {start} e = record { outside = only_same e; same_part = ap (λ (u : List ℤ). capacity_at u start) e }

happens_inside : {start : ℕ} {t : List ℤ} {k : Call} {t' : List ℤ} {a : Answer} → Happens start t k t' a → Inside start t t'
happens_inside (by_update c u p e) = record { outside = p.outside; same_part = ap nat_abs p.same_part }
happens_inside (by_query q f p d e) = inside_same d
happens_inside (by_listing out out' l p m d e) = inside_same d
happens_inside (by_report q p out out' r k m d e) = inside_same d

-- ---- its words, with others behind them

front_take : (n m : ℕ) (l r : List ℤ) → n ≤ m → m ≤ length l → take n (take m l ++ r) ≡ take n l
front_take n m l r h k = take-append-le n (take m l) r (omega (arith, length-take-le m l k)) ∙ take-take n m l h

front_middle : (m : ℕ) (l r : List ℤ) → 5 + m ≤ length l → take m (drop 5 (take (5 + m) l ++ r)) ≡ take m (drop 5 l)
front_middle m l r h =
    ap (take m) (drop-append-le 5 (take (5 + m) l) r (omega (arith, length-take-le (5 + m) l h)) ∙ ap (λ (x : List ℤ). x ++ r) back)
    ∙ take_at (take m (drop 5 l)) r m (length-take-le m (drop 5 l) (omega (arith, length-drop 5 l)))
  where
    back : drop 5 (take (5 + m) l) ≡ take m (drop 5 l)
    back = ap (drop 5) (take-add 5 m l) ∙ drop_at (take 5 l) (take m (drop 5 l)) 5 (length-take-le 5 l (omega arith))

tells_front : {start : ℕ} {t : List ℤ} {k : Call} {t' : List ℤ} {a : Answer} (p : Happens start t k t' a) (ws ws' r : List ℤ) → stretch k ≤ length ws' →
    TellsOne p ws ws' → TellsOne p ws (take (stretch k) ws' ++ r)
tells_front (by_update (posting n q b) u p e) ws ws' r h w = front_take 5 5 ws' r (omega arith) h ∙ w
tells_front (by_update (withdrawing n) u p e) ws ws' r h w = front_take 5 5 ws' r (omega arith) h ∙ w
tells_front (by_update taking_back u p e) ws ws' r h w = front_take 5 5 ws' r (omega arith) h ∙ w
tells_front (by_query q f p d e) ws ws' r h w = front_take 5 5 ws' r (omega arith) h ∙ w
tells_front (by_listing {room} out out' l p m d e) ws ws' r h (x, y, z) = (front_take 5 (5 + room) ws' r (omega arith) h ∙ x, y, front_middle room ws' r h ∙ z)
tells_front (by_report {room} q p out out' u k m d e) ws ws' r h (x, y, z) =
    (front_take 5 (5 + room) ws' r (omega arith) h ∙ x, y, front_middle room ws' r h ∙ z)

alike_itself : (c : ℕ) (w : List ℤ) → Alike c w w
alike_itself c w = record { long = refl; words = λ i h. refl }

-- one call in front of others
made_next :
    {c start : ℕ} {t t₁ t' : List ℤ} {k : Call} {ks : List Call} (ws ws₁ ws' : List ℤ) → stretch k ≤ length ws₁ →
    Performed k start t t₁ ws ws₁ → Made c start t₁ t' ks (drop (stretch k) ws) ws' → Made c start t t' (k ∷ ks) ws (take (stretch k) ws₁ ++ ws')
made_next {c} {start} {t} {k} ws ws₁ ws' h p m =
    record {
      answered = p.answer ∷ m.answered;
      history = next (alike_itself c (part_of t start)) p.happens m.history;
      tells = (
        tells_front p.happens ws ws₁ ws' h p.tells,
        subst (λ (l : List ℤ). Tells m.history (drop (stretch k) ws) l)
            (sym (drop_at (take (stretch k) ws₁) ws' (stretch k) (length-take-le (stretch k) ws₁ h))) m.tells,
      );
    }

-- ---- the run

-- n calls are made, and their answers take the first `at` words
pub record Going (start : ℕ) (t₀ t calls out₀ out : List ℤ) (n at : ℕ) : Type 0 where
  pub words : 4 * n ≤ length calls
  pub placed : at ≤ length out₀
  pub long : length out ≡ length out₀
  pub behind : drop at out ≡ drop at out₀
  pub outside : OnlyPart (capacity_at t₀ start) start t₀ t
  pub same_part : capacity_at t start ≡ capacity_at t₀ start
  pub counted : length (runnable calls (length out₀)) ≡ n + length (runnable (drop (4 * n) calls) (length out₀ - at))
  pub onward : (c : ℕ) {t' ws' : List ℤ} → Made c start t t' (runnable (drop (4 * n) calls) (length out₀ - at)) (drop at out₀) ws' →
      Made c start t₀ t' (runnable calls (length out₀)) out₀ (take at out ++ ws')

pub going_none : (start : ℕ) (t calls out : List ℤ) → Going start t t calls out out 0 0
going_none start t calls out =
    record {
      words = omega arith;
      placed = omega arith;
      long = refl;
      behind = refl;
      outside = only_same refl;
      same_part = refl;
      counted = omega (arith, ap length all);
      onward = λ c {t'} {ws'} m. subst (λ (ks : List Call). Made c start t t' ks out ws') all m;
    }
  where
    all : runnable (drop (4 * 0) calls) (length out - 0) ≡ runnable calls (length out)
    all = let e : length out - 0 ≡ length out = omega arith in ap (runnable calls) e

-- n calls were made, and no other can be
pub record Ended (start : ℕ) (t t' calls out out' : List ℤ) (n : ℕ) : Type 0 where
  pub words : 4 * n ≤ length calls
  pub count : n ≡ length (runnable calls (length out))
  pub made : (c : ℕ) → Made c start t t' (runnable calls (length out)) out out'
  pub long : length out' ≡ length out
  pub outside : OnlyPart (capacity_at t start) start t t'

module _ {start : ℕ} {t₀ t calls out₀ out : List ℤ} {n at : ℕ} (g : Going start t₀ t calls out₀ out n at) where
  left_long : length (drop at out) ≡ length out₀ - at
  left_long = length-drop at out ∙ ap (λ (m : ℕ). m - at) g.long

  pub going_ends : fitting (next_call (drop (4 * n) calls)) (length (drop at out)) ≡ false → Ended start t₀ t calls out₀ out n
  going_ends f =
      record {
        words = g.words;
        count = omega (arith, g.counted, ap length none_left);
        made = λ c. subst (λ (l : List ℤ). Made c start t₀ t (runnable calls (length out₀)) out₀ l) whole (g.onward c (last c));
        long = g.long;
        outside = g.outside;
      }
    where
      none_left : runnable (drop (4 * n) calls) (length out₀ - at) ≡ []
      none_left = runnable_none (drop (4 * n) calls) (length out₀ - at) (ap (λ (m : ℕ). fitting (next_call (drop (4 * n) calls)) m) (sym left_long) ∙ f)

      last : (c : ℕ) → Made c start t t (runnable (drop (4 * n) calls) (length out₀ - at)) (drop at out₀) (drop at out)
      last c = subst (λ (ks : List Call). Made c start t t ks (drop at out₀) (drop at out)) (sym none_left)
          (record { answered = []; history = finished; tells = g.behind })

      whole : take at out ++ drop at out ≡ out
      whole = take-append-drop at out

  module _ {t₁ ws₁ : List ℤ} {k : Call} (r : Ready k (drop (4 * n) calls) (drop at out)) (p : Performed k start t t₁ (drop at out) ws₁) where
    fit : stretch k ≤ length out₀ - at
    fit = omega (arith, left_long, leb-true (stretch k) (length (drop at out)) r.fits)

    rest : List Call
    rest = runnable (drop (4 * (n + 1)) calls) (length out₀ - (at + stretch k))

    on : runnable (drop (4 * n) calls) (length out₀ - at) ≡ k ∷ rest
    unfolding rest
    on =
        ap (runnable (drop (4 * n) calls)) (sym left_long) ∙ runnable_next (drop (4 * n) calls) (length (drop at out)) r.reads r.fits
        ∙ ap (λ (l : List Call). k ∷ l) (ap (λ (l : List ℤ). runnable l (length (drop at out) - stretch k)) (drop-drop 4 (4 * n) calls) ∙ both)
      where
        both : runnable (drop (4 * n + 4) calls) (length (drop at out) - stretch k) ≡ runnable (drop (4 * (n + 1)) calls) (length out₀ - (at + stretch k))
        both =
            let x : 4 * n + 4 ≡ 4 * (n + 1) = omega arith in
            let y : length (drop at out) - stretch k ≡ length out₀ - (at + stretch k) = omega (arith, left_long) in
            ap (λ (m : ℕ). runnable (drop m calls) (length (drop at out) - stretch k)) x ∙ ap (runnable (drop (4 * (n + 1)) calls)) y

    pub going_on : (out₁ : List ℤ) → out₁ ≡ take at out ++ ws₁ → Going start t₀ t₁ calls out₀ out₁ (n + 1) (at + stretch k)
    unfolding rest
    going_on out₁ e =
        record {
          words = omega (arith, next_words (drop (4 * n) calls) r.reads, length-drop (4 * n) calls);
          placed = omega (arith, fit, g.placed);
          long = ap length e ∙ length-append (take at out) ws₁ ∙ omega (arith, front, long₁, g.long, g.placed);
          behind = sym (drop-drop (stretch k) at out₁) ∙ ap (drop (stretch k)) tail ∙ p.later ∙ ap (drop (stretch k)) g.behind
              ∙ drop-drop (stretch k) at out₀;
          outside = only_then g.outside g.same_part inside.outside;
          same_part = inside.same_part ∙ g.same_part;
          counted = g.counted ∙ omega (arith, ap length on);
          onward = λ c m. onward₁ c m;
        }
      where
        inside : Inside start t t₁
        inside = happens_inside p.happens

        front : length (take at out) ≡ at
        front = length-take-le at out (omega (arith, g.placed, g.long))

        long₁ : length ws₁ ≡ length out₀ - at
        long₁ = p.long ∙ left_long

        tail : drop at out₁ ≡ ws₁
        tail = ap (drop at) e ∙ drop_at (take at out) ws₁ at front

        fits₁ : stretch k ≤ length ws₁
        fits₁ = omega (arith, fit, long₁)

        joined : (ws' : List ℤ) → take at out ++ (take (stretch k) ws₁ ++ ws') ≡ take (at + stretch k) out₁ ++ ws'
        joined ws' = sym (append_assoc (take at out) (take (stretch k) ws₁) ws') ∙ ap (λ (l : List ℤ). l ++ ws') (sym upto)
          where
            upto : take (at + stretch k) out₁ ≡ take at out ++ take (stretch k) ws₁
            upto = take-add at (stretch k) out₁ ∙ ap (λ (l : List ℤ). take at out₁ ++ take (stretch k) l) tail
                ∙ ap (λ (l : List ℤ). l ++ take (stretch k) ws₁) (ap (take at) e ∙ take_at (take at out) ws₁ at front)

        onward₁ : (c : ℕ) {t' ws' : List ℤ} → Made c start t₁ t' (runnable (drop (4 * (n + 1)) calls) (length out₀ - (at + stretch k)))
            (drop (at + stretch k) out₀) ws' → Made c start t₀ t' (runnable calls (length out₀)) out₀ (take (at + stretch k) out₁ ++ ws')
        onward₁ c {t'} {ws'} m =
            subst (λ (l : List ℤ). Made c start t₀ t' (runnable calls (length out₀)) out₀ l) (joined ws')
            (g.onward c (subst (λ (ks : List Call). Made c start t t' ks (drop at out₀) (take (stretch k) ws₁ ++ ws')) (sym on) here))
          where
            m₁ : Made c start t₁ t' (runnable (drop (4 * (n + 1)) calls) (length out₀ - (at + stretch k))) (drop (stretch k) (drop at out)) ws'
            m₁ = subst (λ (l : List ℤ). Made c start t₁ t' (runnable (drop (4 * (n + 1)) calls) (length out₀ - (at + stretch k))) l ws')
                (sym (ap (drop (stretch k)) g.behind ∙ drop-drop (stretch k) at out₀)) m

            here : Made c start t t' (k ∷ runnable (drop (4 * (n + 1)) calls) (length out₀ - (at + stretch k))) (drop at out₀) (take (stretch k) ws₁ ++ ws')
            here = subst (λ (l : List ℤ). Made c start t t' (k ∷ runnable (drop (4 * (n + 1)) calls) (length out₀ - (at + stretch k))) l
                (take (stretch k) ws₁ ++ ws')) g.behind (made_next (drop at out) ws₁ ws' fits₁ p m₁)

-- ---- a turn, on the words as they are lent

abbrev lent : List ℤ → ℕ → List ℤ
lent l at = take (length l - at) (drop at l)

module _ {start : ℕ} {t₀ t t₁ calls out₀ out : List ℤ} {n at used : ℕ} (ws₁ out₁ : List ℤ) (g : Going start t₀ t calls out₀ out n at)
    (s : Step start t t₁ (lent calls (4 * n)) (lent out at) ws₁ used) (e : out₁ ≡ take at out ++ (ws₁ ++ drop (length out - at) (drop at out))) where
  turn : Step start t t₁ (drop (4 * n) calls) (drop at out) ws₁ used
  turn = subst (λ (cs : List ℤ). Step start t t₁ cs (drop at out) ws₁ used) (whole_part calls (4 * n))
      (subst (λ (ws : List ℤ). Step start t t₁ (lent calls (4 * n)) ws ws₁ used) (whole_part out at) s)

  back : out₁ ≡ take at out ++ ws₁
  back = lent_back out at ws₁ e

  pub turn_ends : used < 1 → Ended start t₀ t₁ calls out₀ out₁ n
  turn_ends h =
      let (f, et, ew) = turn.stopped (omega (arith, h)) in
      let same : out₁ ≡ out = back ∙ ap (λ (l : List ℤ). take at out ++ l) ew ∙ take-append-drop at out in
      subst (λ (l : List ℤ). Ended start t₀ t₁ calls out₀ l n) (sym same) (subst (λ (l : List ℤ). Ended start t₀ l calls out₀ out n) (sym et) (going_ends g f))

  pub turn_goes : 1 ≤ used → Going start t₀ t₁ calls out₀ out₁ (n + 1) (at + used)
  turn_goes h =
      let (k, r, p, u) = turn.ran (omega (arith, h)) in
      subst (λ (m : ℕ). Going start t₀ t₁ calls out₀ out₁ (n + 1) (at + m)) (sym u) (going_on g r p out₁ back)
