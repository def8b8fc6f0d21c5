-- The words of the header that tell of the tree of offers: its root, and that of the whole envelope.
use Rattle.std.specs.Prelude.{◌≡◌, Bool, ℕ, pos}
use Rattle.table.specs.Fields.{envelope_root_word, offers_root_word}
use Rattle.table.specs.Words.{Words, word}
use Rattle.check_trees.specs.Deciding.{Decides, decides_as}

pub record Header (w : Words) (x e : ℕ) : Type 0 where
  pub offers_root : word w offers_root_word ≡ pos x
  pub envelope_root : word w envelope_root_word ≡ pos e

pub header_by : {w : Words} {x e : ℕ} {r : Bool} → Decides r (word w offers_root_word ≡ pos x × word w envelope_root_word ≡ pos e) → Decides r (Header w x e)
header_by = decides_as (λ p. record { offers_root = p.0; envelope_root = p.1 }) (λ h. (h.offers_root, h.envelope_root))
