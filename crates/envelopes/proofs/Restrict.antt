-- A withdrawn line leaves no trace: the envelope after any history is that of the lines that remain.
use Rattle.std.specs.Prelude.{◌≡◌}
use mathlib.Core.List.{List, Memᴰ, Sublistᴰ}
use Rattle.lists.specs.Places.{sublist_mem}
use Rattle.envelopes.specs.PseudoLines.{Figure, PseudoLines}
use Rattle.envelopes.specs.Envelope.{Ordered, Env, listed}
use Rattle.envelopes.specs.EnvelopeLaws.{ordered_sublist}
use Rattle.envelopes.proofs.Listed.{stays_among, listed_stays, stays_listed}
use Rattle.envelopes.proofs.Query.{env_unique}

module _ (S : Figure) (L : PseudoLines S) (ls remaining : List S.Line) (s : Sublistᴰ remaining ls) where
  -- what a removal uncovers is decided by the lines that remain
  pub restrict : Ordered S ls → (es fs : List S.Line) → Env S remaining es → Env S remaining fs → es ≡ fs
  restrict o es fs = env_unique S L remaining es fs (ordered_sublist S s o)

  -- and a listed line that remains is listed still
  pub still_listed : (e : S.Line) → Memᴰ e remaining → Memᴰ e (listed S ls) → Memᴰ e (listed S remaining)
  still_listed e m i = stays_listed S remaining e m (stays_among S ls remaining e (λ a. sublist_mem s) (listed_stays S ls e i))
