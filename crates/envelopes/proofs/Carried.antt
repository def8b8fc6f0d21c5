-- Lines that carry more than a line, such as the slot where they are kept: the envelope does not ask what they carry.
use Rattle.std.specs.Prelude.{◌≡◌, List, [], ◌∷◌, map, T}
use Rattle.std.proofs.Math.Path.{ap}
use Rattle.std.proofs.Common.{subst, ◌∙◌}
use mathlib.Core.List.Memᴰ
use Rattle.lists.specs.Filter.{every_map, keep_map, keep_same}
use Rattle.envelopes.specs.PseudoLines.{Figure, PseudoLines}
use Rattle.envelopes.specs.Envelope.{Ordered, ordered_nil, ordered_cons, Env, stays, listed}
use Rattle.envelopes.proofs.Listed.{listed_env}
use Rattle.envelopes.proofs.Query.{env_listed}

-- The figure of things that have a line.
abbrev pub carried : (S : Figure) {A : Type 0} → (A → S.Line) → Figure
carried S {A} f =
    record {
      Line = A;
      Point = S.Point;
      at_most = λ a b x. S.at_most (f a) (f b) x;
      up_to = S.up_to;
      before = λ a b. S.before (f a) (f b);
      cross = λ a b. S.cross (f a) (f b);
    }

module _ (S : Figure) {A : Type 0} (f : A → S.Line) where
  pub carried_laws : PseudoLines S → PseudoLines (carried S f)
  carried_laws L =
      record {
        price_total = λ a b. L.price_total (f a) (f b);
        price_trans = λ a b c. L.price_trans (f a) (f b) (f c);
        point_total = L.point_total;
        point_trans = L.point_trans;
        somewhere = L.somewhere;
        left_of = L.left_of;
        right_of = L.right_of;
        between = L.between;
        before_irrefl = λ a. L.before_irrefl (f a);
        before_trans = λ a b c. L.before_trans (f a) (f b) (f c);
        rise = λ a b. L.rise (f a) (f b);
        rise_strict = λ a b. L.rise_strict (f a) (f b);
        fall = λ a b. L.fall (f a) (f b);
        cross_le = λ a b. L.cross_le (f a) (f b);
        cross_ge = λ a b. L.cross_ge (f a) (f b);
      }

  pub ordered_map : (ls : List A) → Ordered (carried S f) ls → Ordered S (map f ls)
  ordered_map [] o = ordered_nil
  ordered_map (a ∷ ls) (ordered_cons h o) =
      ordered_cons (λ b m. let (c, i, e) = Memᴰ.of_map f ls m in subst (λ (k : S.Line). T (S.before (f a) k)) e (h c i)) (ordered_map ls o)

  pub ordered_of_map : (ls : List A) → Ordered S (map f ls) → Ordered (carried S f) ls
  ordered_of_map [] o = ordered_nil
  ordered_of_map (a ∷ ls) (ordered_cons h o) = ordered_cons (λ b m. h (f b) (Memᴰ.map f m)) (ordered_of_map ls o)

  stays_map : (ls : List A) (e : A) → stays S (map f ls) (f e) ≡ stays (carried S f) ls e
  stays_map ls e = simp every_map

  -- the listing of the lines is that of the things, line by line
  pub listed_map : (ls : List A) → listed S (map f ls) ≡ map f (listed (carried S f) ls)
  unfolding listed
  listed_map ls = keep_map (stays S (map f ls)) f ls ∙ ap (map f) (keep_same (λ a. stays S (map f ls) (f a)) (stays (carried S f) ls) (stays_map ls) ls)

  module _ (L : PseudoLines S) where
    pub env_map : (ls es : List A) → Ordered (carried S f) ls → Env (carried S f) ls es → Env S (map f ls) (map f es)
    env_map ls es o E =
        rw (env_listed (carried S f) (carried_laws L) ls es o E, ← listed_map ls) (listed_env S L (map f ls) (ordered_map ls o))
