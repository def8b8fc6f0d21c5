-- The roots that a part's words tell, whatever the words are.
use Rattle.std.specs.Prelude.{ℕ}
use Rattle.table.specs.Fields.{envelope_root_word, most_nodes, offers_root_word}
use Rattle.table.specs.Words.{Words, word, up_to}

-- of the tree of the book's pieces
abbrev pub envelope_root : Words → ℕ
envelope_root w = up_to most_nodes (word w envelope_root_word)

-- of the tree of its offers
abbrev pub offers_root : Words → ℕ
offers_root w = up_to most_nodes (word w offers_root_word)
