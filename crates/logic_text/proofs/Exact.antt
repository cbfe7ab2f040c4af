-- Reading a whole list of lexemes as a grove is exact.
use Rattle.std.proofs.Common.{◌≡◌, ℕ, ◌+◌, List, length, Ok, refl, arith, codes}
use Rattle.model_shapes.specs.Trees.{Trees}
use Rattle.model_text.specs.Lexemes.{Lexeme}
use Rattle.model_text.specs.FaultTokens.{AreOfTokens, IsFaultToken}
use Rattle.model_documents.specs.Grammar.{SpellsGrove}
use Rattle.token_readers.specs.Reading.{Read, not_next}
use Rattle.token_readers.specs.Giving.{Fails}
use Rattle.token_readers.specs.Faults.{AtToken, LeavesWithin, FirstLeft}
use Rattle.token_readers.specs.Spelling.{whole}
use Rattle.token_readers.specs.declared.fault.ReadFault.{ReadFault}
use Rattle.token_readers.specs.declared.fault.TextFault.{TextFault}
use Rattle.token_readers.proofs.Sound.{Sound}
use Rattle.token_readers.proofs.Only.{Only}
use Rattle.token_readers.proofs.Whole as whole_
use Rattle.logic_text.specs.TreeReaders.{grove_at}
use Rattle.logic_text.proofs.GroveReader.{grove_sound, grove_only}

-- the reader for nesting of less than n; at the depth of the program, 128, lists are bounded by the
-- greatest u32
abbrev pub reader : ℕ → Read Trees
reader n = grove_at (n + 4294967167) n

sound_at : (n : ℕ) → Sound n (reader n) SpellsGrove
sound_at n = grove_sound (n + 4294967167) n (omega arith)

only_at : (n : ℕ) → Only (reader n) SpellsGrove (not_next (codes "+"))
only_at n = grove_only (n + 4294967167) n

-- what is read is spelled
pub found : (n : ℕ) (ts : List Lexeme) (a : Trees) → whole (reader n) ts ≡ Ok a → SpellsGrove a ts
found = whole_.whole_found reader SpellsGrove (not_next (codes "+")) refl sound_at only_at

-- the tokens that the reading leaves are of those
pub within : (n : ℕ) (ts : List Lexeme) (fault : ReadFault) → Fails fault (whole (reader n) ts)
    → (count : ℕ) → length ts ≡ count → LeavesWithin count fault
within = whole_.fault_within reader SpellsGrove (not_next (codes "+")) refl sound_at only_at

-- a text that is called bad spells nothing
pub nothing : (n : ℕ) (ts : List Lexeme) (fault : ReadFault) → Fails fault (whole (reader n) ts)
    → (count : ℕ) (answer : TextFault) → AtToken answer (FirstLeft count fault)
    → AtToken answer (λ token. (a : Trees) → SpellsGrove a ts → ⊥)
nothing = whole_.fault_spells_none reader SpellsGrove (not_next (codes "+")) refl sound_at only_at

-- at its fault token
pub fault_token : (n : ℕ) (ts : List Lexeme) (fault : ReadFault) → Fails fault (whole (reader n) ts)
    → (count : ℕ) → length ts ≡ count → (answer : TextFault)
    → AtToken answer (FirstLeft count fault) → AreOfTokens ts
    → AtToken answer (IsFaultToken SpellsGrove ts)
fault_token = whole_.fault_at_token reader SpellsGrove (not_next (codes "+")) refl sound_at only_at

-- a list spells at most one grove
pub at_most_one : (ts : List Lexeme) (a b : Trees) → SpellsGrove a ts → SpellsGrove b ts → a ≡ b
at_most_one = whole_.one_value reader SpellsGrove (not_next (codes "+")) refl sound_at only_at
