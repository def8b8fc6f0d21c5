-- Theorems on specs/Free.
use Rattle.std.specs.Prelude.{◌≡◌, refl, ◌≢◌, ℕ, ◌≤◌, ◌<◌, length, pos}
use Rattle.std.proofs.Common.{◌∙◌, ap, arith}
use mathlib.Core.List.{List, [], ◌∷◌, Memᴰ}
use Rattle.table.specs.Fields.{first_free_word, most_nodes, most_slots, next_free_field, number_field}
use Rattle.table.specs.Words.{Words, word, wset, wset_length, wset_same, wset_other, up_to, up_to_in}
use Rattle.table.specs.Layout.{cap, cap_most, cell, cset, link_at, Outside, outside_of, place_low, place_in, cset_length, cset_cap, cset_rest}
use Rattle.table.specs.Layout.{cset_same, header_cap, header_cell}
use Rattle.table.proofs.LayoutLaws.{cset_other}
use Rattle.table.specs.Free.{FreeChain, FreeSlots, chain_still, first_free, first_free_lem, free_more, given, given_cap, head0, long}

-- fields of other slots, and other fields of that slot
pub given_cell : (w : Words) (s f t : ℕ) → ¬ ((f ≡ number_field) × (t ≡ s)) → ¬ ((f ≡ next_free_field) × (t ≡ s)) → cell (given w s) f t ≡ cell w f t
given_cell w s f t d e = header_cell _ first_free_word _ (omega arith) (omega arith) f t ∙ cset_other _ next_free_field s _ e ∙ cset_other w number_field s _ d

pub gave : {w : Words} {s : ℕ} {ss : List ℕ} → FreeSlots w ss → 1 ≤ s → s ≤ cap w → ((t : ℕ) → Memᴰ t ss → t ≢ s) → FreeSlots (given w s) (s ∷ ss)
gave {w} {s} {ss} f l h d =
    record {
      first = wset_same w₂ first_free_word (pos s) (omega (
        arith,
        long w l h,
        cset_length w number_field s (pos 0),
        cset_length w₁ next_free_field s (pos (first_free w)),
      ));
      chain = free_more l (omega (arith, given_cap w s)) number next rest;
    }
  where
    w₁ : Words
    w₁ = cset w number_field s (pos 0)

    w₂ : Words
    w₂ = cset w₁ next_free_field s (pos (first_free w))

    number : cell (given w s) number_field s ≡ pos 0
    number =
        header_cell w₂ first_free_word (pos s) (omega arith) (omega arith) number_field s ∙ cset_other w₁ next_free_field s _ (λ e. omega (arith, e.0))
        ∙ cset_same (pos 0) (record { low = l; high = h; field = omega arith })

    next : cell (given w s) next_free_field s ≡ pos (head0 ss)
    next =
        header_cell w₂ first_free_word (pos s) (omega arith) (omega arith) next_free_field s ∙ cset_same (pos (first_free w))
        (record { low = l; high = omega (arith, cset_cap w number_field s (pos 0)); field = omega arith })
        ∙ ap pos (first_free_lem f)

    rest : FreeChain (given w s) ss
    rest = chain_still f.chain (given_cap w s) (λ t m. given_cell w s number_field t (λ q. d t m q.1) (λ q. d t m q.1))
        (λ t m. given_cell w s next_free_field t (λ q. d t m q.1) (λ q. d t m q.1))
