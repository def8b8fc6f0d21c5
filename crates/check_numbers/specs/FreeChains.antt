-- A chain of free slots that ends after as many steps as it should: no slot comes twice, since a slot that comes twice comes for ever.
use Rattle.std.specs.Prelude.{◌≡◌, refl, ◌≢◌, Bool, true, false, ℕ, suc, ◌-◌, ◌≤◌, ◌<◌, length, pos, T, eqb, leb}
use Rattle.std.proofs.Common.{sym, ◌∙◌, ap, subst, arith, eqb-true, eq-eqb, leb-true, le-leb}
use mathlib.Core.HLevel.{¬_prop}
use mathlib.Core.List.{List, [], ◌∷◌, Memᴰ, Pairwise}
use Rattle.lists.specs.Bools.{never}
use Rattle.lists.specs.Members.{pairs_cons}
use Rattle.integers.specs.Equal.{equal}
use Rattle.integers.specs.Parts.{equal_eq, equal_is}
use Rattle.table.specs.Fields.{first_free_word, most_nodes, next_free_field, number_field}
use Rattle.table.specs.Words.{Words, word, up_to, up_to_in}
use Rattle.table.specs.Layout.{cap, cell, link_at}
use Rattle.table.specs.Free.{head0, FreeChain, free_none, free_more, head_most, free_link}
use Rattle.form.specs.Form.{Freely}
use Rattle.check_trees.specs.Deciding.{Decides, decides_no, decides_as}

-- a slot of the part, without an offer
pub record IsFree (w : Words) (s : ℕ) : Type 0 where
  pub low : 1 ≤ s
  pub high : s ≤ cap w
  pub cleared : cell w number_field s ≡ pos 0

pub within : {s c m : ℕ} → c ≡ m → Decides (leb s c) (s ≤ m)
within {s} {c} e = record { sound = λ t. omega (arith, leb-true s c t); complete = λ h. le-leb s c (omega arith) }

pub free_by : {w : Words} {s : ℕ} {r : Bool} → Decides r ((1 ≤ s × s ≤ cap w) × T (equal (cell w number_field s) (pos 0))) → Decides r (IsFree w s)
free_by {w} {s} =
    decides_as (λ p. record { low = p.0.0; high = p.0.1; cleared = equal_eq (cell w number_field s) (pos 0) p.1 })
    (λ f. ((f.low, f.high), equal_is (cell w number_field s) (pos 0) f.cleared))

-- k free slots from slot s on, and then 0
pub record Chained (w : Words) (s k : ℕ) : Type 0 where
  pub slots : List ℕ
  pub first : s ≡ head0 slots
  pub long : length slots ≡ k
  pub chain : FreeChain w slots

-- ---- one step along the chain

-- the first slot, the word that leads on, and k slots behind it
record Headed (w : Words) (s k : ℕ) : Type 0 where
  head : IsFree w s
  word : cell w next_free_field s ≡ pos (link_at w next_free_field s)
  rest : Chained w (link_at w next_free_field s) k

module _ {w : Words} {s k : ℕ} where
  chained_on : {t : ℕ} → IsFree w s → cell w next_free_field s ≡ pos t → Chained w t k → Chained w s (suc k)
  chained_on f e c = record {
    slots = s ∷ c.slots;
    first = refl;
    long = ap suc c.long;
    chain =
        free_more f.low f.high f.cleared (e ∙ ap pos c.first) c.chain;
  }

  headed : Chained w s (suc k) → Headed w s k
  headed c = go c.slots c.first c.long c.chain
    where
      go : (ss : List ℕ) → s ≡ head0 ss → length ss ≡ suc k → FreeChain w ss → Headed w s k
      go [] e n f = absurd (omega arith)
      go (t ∷ ss) e n (free_more l h z m f) =
          rw e
          (record {
            head = record { low = l; high = h; cleared = z };
            word = m ∙ ap pos (sym (free_link t f m));
            rest = record { slots = ss; first = free_link t f m; long = omega arith; chain = f };
          })

-- ---- the loop

-- what is left to see of the chain from `first` on: k slots from s on
pub record Left (w : Words) (first count s k : ℕ) : Type 0 where
  pub there : Chained w first count → Chained w s k
  pub back : Chained w s k → Chained w first count

pub left_all : {w : Words} {first count : ℕ} → Left w first count first count
left_all = record { there = λ c. c; back = λ c. c }

module _ {w : Words} {first count s k : ℕ} (g : Left w first count s k) where
  module _ {b : Bool} (more : 0 < k) (d : Decides b (IsFree w s)) where
    some : k ≡ suc (k - 1)
    some = omega arith

    -- the next slot, read off the word as a link, and whether the word is that number
    module _ {t : ℕ} {r : Bool} (q : t ≡ link_at w next_free_field s) (exact : Decides r (cell w next_free_field s ≡ pos t)) where
      pub left_more : b ≡ true → r ≡ true → Left w first count t (k - 1)
      left_more e er =
          record {
            there = λ c. subst (λ (n : ℕ). Chained w n (k - 1)) (sym q) (headed (subst (Chained w s) some (g.there c))).rest;
            back = λ c. g.back (subst (Chained w s) (sym some) (chained_on (d.sound e) (exact.sound er) c));
          }

      pub left_other : r ≡ false → Decides false (Chained w first count)
      left_other e = decides_no (λ c. never (exact.complete ((headed (subst (Chained w s) some (g.there c))).word ∙ ap pos (sym q))) e)

    pub left_not : b ≡ false → Decides false (Chained w first count)
    left_not e = decides_no (λ c. never (d.complete (headed (subst (Chained w s) some (g.there c))).head) e)

  -- the slots are counted: here the chain has to end
  pub left_ends : k ≤ 0 → Decides (eqb s 0) (Chained w first count)
  left_ends over =
      record {
        sound = λ e. g.back (record { slots = []; first = eqb-true s 0 e; long = omega arith; chain = free_none });
        complete = λ c. let h = g.there c in eq-eqb s 0 (go h.slots h.first h.long);
      }
    where
      go : (ss : List ℕ) → s ≡ head0 ss → length ss ≡ k → s ≡ 0
      go [] e n = e
      go (t ∷ ss) e n = absurd (omega arith)

-- ---- no slot comes twice

chain_length : {w : Words} {ss ts : List ℕ} → FreeChain w ss → FreeChain w ts → head0 ss ≡ head0 ts → length ss ≡ length ts
chain_length free_none free_none e = refl
chain_length free_none (free_more l h z n f) e = absurd (omega arith)
chain_length (free_more l h z n f) free_none e = absurd (omega arith)
chain_length {w} (free_more {s} l h z n f) (free_more {s = s'} l' h' z' n' f') e =
    ap suc (chain_length f f' (sym (free_link s f n) ∙ ap (link_at w next_free_field) e ∙ free_link s' f' n'))

-- the chain from one of its slots on
record Onward (w : Words) (s k : ℕ) : Type 0 where
  slots : List ℕ
  first : s ≡ head0 slots
  chain : FreeChain w slots
  short : length slots ≤ k

onward : {w : Words} {s : ℕ} {ss : List ℕ} → FreeChain w ss → Memᴰ s ss → Onward w s (length ss)
onward {ss} f (Memᴰ.head e) = record { slots = ss; first = e; chain = f; short = omega arith }
onward (free_more l h z n f) (Memᴰ.tail m) = let o = onward f m in record {
  slots = o.slots;
  first = o.first;
  chain = o.chain;
  short =
      omega (arith, o.short);
}

pub chain_apart : {w : Words} {ss : List ℕ} → FreeChain w ss → Pairwise (λ (a b : ℕ). a ≢ b) ss
chain_apart free_none = Pairwise.nil
chain_apart {w} (free_more {s} {ss} l h z n f) = pairs_cons (λ a b. ¬_prop) (λ t m e. let o = onward f m in again o (e ∙ o.first)) (chain_apart f)
  where
    again : {t : ℕ} (o : Onward w t (length ss)) → s ≡ head0 o.slots → ⊥
    again o e = omega (arith, chain_length (free_more l h z n f) o.chain e, o.short)

-- ---- the free slots of a part

module _ {w : Words} {n c : ℕ} (ec : c ≡ cap w) where
  pub freely_over : c < n → Decides false (Freely w n)
  freely_over h = decides_no (λ f. omega (arith, f.slots_used))

  module _ {first : ℕ} (room : n ≤ c) (ef : first ≡ up_to most_nodes (word w first_free_word)) where
    first_is : (f : Freely w n) → first ≡ head0 f.free
    first_is f = ef ∙ ap (up_to most_nodes) f.first_free ∙ up_to_in most_nodes (head0 f.free) (omega (arith, head_most f.free f.free_chain))

    pub freely_told : {b : Bool} → Decides b (word w first_free_word ≡ pos first) → b ≡ false → Decides false (Freely w n)
    freely_told d e = decides_no (λ f. never (d.complete (f.first_free ∙ ap pos (sym (first_is f)))) e)

    pub freely_chained : {b r : Bool} → Decides b (word w first_free_word ≡ pos first) → b ≡ true → Decides r (Chained w first (c - n)) → Decides r (Freely w n)
    freely_chained d e = decides_as there back
      where
        there : Chained w first (c - n) → Freely w n
        there k =
            record {
              free = k.slots;
              first_free = d.sound e ∙ ap pos k.first;
              free_chain = k.chain;
              free_apart = chain_apart k.chain;
              slots_used = omega (arith, k.long);
            }

        back : Freely w n → Chained w first (c - n)
        back f = record { slots = f.free; first = first_is f; long = omega (arith, f.slots_used); chain = f.free_chain }
