-- Needn't be believed: the program's promise doesn't speak of it. What a text holds, short or long.
use Rattle.std.specs.Prelude.{ℕ, List}
use Rattle.std.specs.String.{string_bytes}
use Rattle.dom_terms.specs.declared.text.Letters.{Letters}
use Rattle.dom_terms.specs.declared.text.Letters.TheVariants.{Short, Long}

-- the bytes
abbrev pub letters_bytes : Letters → List ℕ
letters_bytes (Short short) = short
letters_bytes (Long long) = string_bytes long.value
