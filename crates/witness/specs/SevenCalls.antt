-- The calls' promises make the history, and the theorem about every history its answers.
use Rattle.std.specs.Prelude.{◌≡◌, refl, List, [], ◌∷◌, length, ℤ, pos, Result, Ok}
use Rattle.std.proofs.Common.{sym, subst}
use Rattle.std.proofs.Math.Option.{none}
use Rattle.plain.specs.Causes.{Clear}
use Rattle.plain.specs.Book.{post, withdraw, take_back, Answer, opened, open_trials}
use Rattle.causes.specs.declared.Declined.{Declined}
use Rattle.promises.specs.declared.Update.{Update}
use Rattle.promises.specs.declared.Found.{Found}
use Rattle.form.specs.Local.{Alike}
use Rattle.promises.specs.Promises.{part_of, Opens, Updates, Queries, Lists, update_answer, found_answer, listing_answer}
use Rattle.history.specs.History.{posting, withdrawing, taking_back, by_update, by_query, by_listing, History, finished, next}
use Rattle.history.specs.Claim.{Claim}
use Rattle.history.proofs.Claim.{every_history}
use Rattle.witness.specs.Witness.{calls, Witness}

-- nobody writes between two calls
alike : (t : List ℤ) → Alike 3 (part_of t 0) (part_of t 0)
alike t = record { long = refl; words = λ i h. refl }

pub made :
    {t t₀ t₁ t₂ t₃ t₄ out out' : List ℤ} {r : Result (Unit {0}) Declined} {u₁ u₂ u₃ u₄ : Result Update Declined}
    {f₁ f₂ : Result Found Declined} {l : Result ℤ Declined} →
    length t ≡ 1_280 → length out ≡ 6 → Opens (pos 3) 0 t t₀ r → Updates (post (pos 1) (pos 3) (pos 0)) 0 t₀ t₁ u₁ →
    Updates (post (pos 2) (pos 1) (pos 10)) 0 t₁ t₂ u₂ →
    Queries (pos 5) 0 t₂ f₁ → Lists 0 t₂ out out' l → Updates (withdraw (pos 1)) 0 t₂ t₃ u₃ → Queries (pos 5) 0 t₃ f₂ →
    Updates take_back 0 t₃ t₄ u₄ → Witness
made {t} {t₀} {t₁} {t₂} {t₃} {t₄} {out} {out'} {r} {u₁} {u₂} {u₃} {u₄} {f₁} {f₂} {l} e d p a b q s w z x =
    record {
      before = t;
      opened = t₀;
      after = t₄;
      answer = r;
      opens = p;
      clear = free;
      accepted = claim.0;
      history = subst (λ (as' : List Answer). History 3 0 t₀ calls as' t₄) claim.1.told history;
    }
  where
    free : Clear (open_trials (length t) 0 (pos 3))
    free = rw e (tt, (tt, tt))

    history :
        History 3 0 t₀ calls
        (update_answer u₁ ∷ update_answer u₂ ∷ found_answer f₁ ∷ listing_answer l out' ∷ update_answer u₃ ∷ found_answer f₂ ∷ update_answer u₄ ∷ []) t₄
    history =
        next (alike t₀) (by_update (posting (pos 1) (pos 3) (pos 0)) u₁ a refl)
        (next (alike t₁) (by_update (posting (pos 2) (pos 1) (pos 10)) u₂ b refl)
        (next (alike t₂) (by_query (pos 5) f₁ q refl refl)
        (next (alike t₂) (by_listing out out' l s (sym d) refl refl)
        (next (alike t₂) (by_update (withdrawing (pos 1)) u₃ w refl)
        (next (alike t₃) (by_query (pos 5) f₂ z refl refl)
        (next (alike t₃) (by_update taking_back u₄ x refl) finished))))))

    claim : (r ≡ Ok tt) × Claim (opened (pos 3)) none history
    claim = every_history (pos 3) r p free history
