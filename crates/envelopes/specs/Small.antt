-- The smallest envelopes: of no line, of one, and that some line has one that is not empty.
use Rattle.std.specs.Prelude.{◌<◌, refl, length}
use Rattle.std.proofs.Common.{arith}
use mathlib.Core.List.Memᴰ
use mathlib.Core.List.Sublistᴰ
use mathlib.Core.List.{List, [], ◌∷◌, Memᴰ}
use Rattle.lists.specs.Places.{all_cons, place_of}
use Rattle.envelopes.specs.PseudoLines.{Figure, PseudoLines}
use Rattle.envelopes.specs.Crossing.{price_refl}
use Rattle.envelopes.specs.Envelope.{Ordered, ordered_nil, ordered_cons, Env}

pub env_nil : (S : Figure) → Env S [] []
env_nil S = record {
  sub = Sublistᴰ.refl [];
  chain = λ d. record { ordered = λ i h. absurd (omega arith); turning = λ i h. absurd (omega arith) };
  low =
      λ x l m. absurd (Memᴰ.not-nil m);
}

module _ (S : Figure) where
  pub ordered_one : (a : S.Line) → Ordered S (a ∷ [])
  ordered_one a = ordered_cons (λ b m. absurd (Memᴰ.not-nil m)) ordered_nil

module _ (S : Figure) (L : PseudoLines S) where
  pub env_one : (a : S.Line) → Env S (a ∷ []) (a ∷ [])
  env_one a =
      record {
        sub = Sublistᴰ.refl (a ∷ []);
        chain = λ d. record { ordered = λ i h. absurd (omega arith); turning = λ i h. absurd (omega arith) };
        low = λ x. all_cons (a, Memᴰ.head refl, price_refl S L a x) (λ l m. absurd (Memᴰ.not-nil m));
      }

  pub env_some : {ls es : List S.Line} → Env S ls es → (l : S.Line) → Memᴰ l ls → 0 < length es
  env_some E l m = let (e, i, h) = E.low L.somewhere l m in let (k, b, q) = place_of e i in omega arith
