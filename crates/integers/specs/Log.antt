-- log_up(n), the least whole j with 2^j ≥ n (docs/REQUIREMENTS.md, 5.3).
use Rattle.std.specs.Prelude.{◌≡◌, refl, Bool, true, false, cond, not, ℕ, zero, suc, ◌*◌, ◌^◌, ◌≤◌, ◌<◌, T, leb}
use Rattle.std.proofs.Math.Nat.{two-pow-succ}
use Rattle.std.proofs.Common.{le_trans, arith, leb→le, pow_pos, pow_mono}
use Rattle.std.proofs.Math.Decide.{dec_le}
use Rattle.std.proofs.Math.Dec.{nleb→lt}

-- one more where 2^j is too small
abbrev grown : ℕ → ℕ → ℕ
grown n j = cond (leb n (2 ^ j)) j (suc j)

unfoldable pub log_up : ℕ → ℕ
log_up zero = zero
log_up (suc n) = grown (suc n) (log_up n)

pub log_up_covers : (n : ℕ) → n ≤ 2 ^ log_up n
unfolding log_up
log_up_covers zero = omega arith
log_up_covers (suc n) = go (leb (suc n) (2 ^ log_up n)) (leb→le (suc n) (2 ^ log_up n)) (log_up_covers n)
  where
    go : (b : Bool) → (T b → suc n ≤ 2 ^ log_up n) → n ≤ 2 ^ log_up n → suc n ≤ 2 ^ cond b (log_up n) (suc (log_up n))
    go true f h = f tt
    go false f h = omega (arith, two-pow-succ (log_up n), pow_pos (log_up n))

pub log_up_least : (n j : ℕ) → n ≤ 2 ^ j → log_up n ≤ j
unfolding log_up
log_up_least zero j h = omega arith
log_up_least (suc n) j h = go (leb (suc n) (2 ^ log_up n)) (nleb→lt (suc n) (2 ^ log_up n)) (log_up_least n j (omega arith))
  where
    go : (b : Bool) → (T (not b) → 2 ^ log_up n < suc n) → log_up n ≤ j → cond b (log_up n) (suc (log_up n)) ≤ j
    go true f k = k
    go false f k = more (dec_le (suc (log_up n)) j) (f tt)
      where
        more : Dec (suc (log_up n) ≤ j) → 2 ^ log_up n < suc n → suc (log_up n) ≤ j
        more (yes d) g = d
        more (no d) g = let p : 2 ^ j ≤ 2 ^ log_up n = pow_mono (omega arith) in omega arith

pub log_up_mono : {m n : ℕ} → m ≤ n → log_up m ≤ log_up n
log_up_mono {m} {n} h = log_up_least m (log_up n) (le_trans h (log_up_covers n))

pub log_up_zero : log_up 0 ≡ 0
unfolding log_up
log_up_zero = refl

pub log_up_one : log_up 1 ≡ 0
unfolding log_up
log_up_one = refl

pub log_up_double : (n : ℕ) → 1 ≤ n → log_up (2 * n) ≡ suc (log_up n)
log_up_double n h = go (log_up (2 * n)) (log_up_covers (2 * n)) (log_up_least (2 * n) (suc (log_up n)) (omega (arith, log_up_covers n, two-pow-succ (log_up n))))
  where
    go : (j : ℕ) → 2 * n ≤ 2 ^ j → j ≤ suc (log_up n) → j ≡ suc (log_up n)
    go zero p q = absurd (omega arith)
    go (suc j) p q = let r : log_up n ≤ j = log_up_least n j (omega (arith, two-pow-succ j)) in omega arith

-- one power of two too few
pub log_up_above : (n j : ℕ) → 2 ^ j < n → j < log_up n
log_up_above n j h = go (dec_le (log_up n) j)
  where
    go : Dec (log_up n ≤ j) → j < log_up n
    go (yes d) = let p : 2 ^ log_up n ≤ 2 ^ j = pow_mono d in absurd (omega (arith, log_up_covers n))
    go (no d) = omega arith

-- of a full table
pub log_up_full : {n : ℕ} → n ≤ 4_096 → log_up n ≤ 12
log_up_full {n} h = log_up_least n 12 h
