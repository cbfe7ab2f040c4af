-- Reading a whole list of lexemes as a theory is exact.
use Rattle.std.proofs.Common.{◌≡◌, ℕ, ◌+◌, List, length, Ok, refl, ◌∙◌, arith, codes}
use Rattle.model_commands.specs.Theories.{Theory}
use Rattle.model_text.specs.Lexemes.{Lexeme}
use Rattle.model_text.specs.Versions.{in_its_version}
use Rattle.model_text.proofs.Versions.{version_length}
use Rattle.model_text.proofs.Cuts.{Cut}
use Rattle.model_grammar.proofs.VersionCuts.{cut_there}
use Rattle.model_text.specs.FaultTokens.{AreOfTokens, IsFaultToken}
use Rattle.model_grammar.specs.Theories.{SpellsRaw, SpellsTheory}
use Rattle.token_readers.specs.Reading.{Read, not_begun, the_terminal}
use Rattle.token_readers.specs.Giving.{Fails}
use Rattle.token_readers.specs.Spelling.{whole}
use Rattle.token_readers.specs.Faults.{AtToken, LeavesWithin, FirstLeft}
use Rattle.token_readers.specs.declared.fault.ReadFault.{ReadFault}
use Rattle.token_readers.specs.declared.fault.TextFault.{TextFault}
use Rattle.token_readers.specs.declared.fault.TextFault.TheVariants as faults
use Rattle.token_readers.proofs.Sound.{Sound}
use Rattle.token_readers.proofs.Only.{Only}
use Rattle.token_readers.proofs.Whole as whole_
use Rattle.proof_text.specs.Theories.{theory_at}
use Rattle.proof_text.proofs.TheoryReader.{theory_sound, theory_only}

-- the reader for nesting of less than n; at the depth of the program, 128, lists are bounded by the
-- greatest u32
abbrev pub reader : ℕ → Read Theory
reader n = theory_at n (n + 4294967167)

sound_at : (n : ℕ) → Sound n (reader n) SpellsRaw
sound_at n = theory_sound n (n + 4294967167) n (omega arith) (omega arith) (omega arith)

only_at : (n : ℕ) → Only (reader n) SpellsRaw (not_begun (the_terminal (codes "proc")))
only_at n = theory_only n (n + 4294967167)

-- what is read is spelled, but for the sorts
pub found : (n : ℕ) (ts : List Lexeme) (t : Theory) → whole (reader n) ts ≡ Ok t → SpellsRaw t ts
found = whole_.whole_found reader SpellsRaw (not_begun (the_terminal (codes "proc"))) refl
    sound_at only_at

-- the tokens that the reading leaves are of those
pub within : (n : ℕ) (ts : List Lexeme) (fault : ReadFault) → Fails fault (whole (reader n) ts)
    → (count : ℕ) → length ts ≡ count → LeavesWithin count fault
within = whole_.fault_within reader SpellsRaw (not_begun (the_terminal (codes "proc"))) refl
    sound_at only_at

none_raw : (n : ℕ) (ts : List Lexeme) (fault : ReadFault) → Fails fault (whole (reader n) ts)
    → (count : ℕ) (answer : TextFault) → AtToken answer (FirstLeft count fault)
    → AtToken answer (λ token. (t : Theory) → SpellsRaw t ts → ⊥)
none_raw = whole_.fault_spells_none reader SpellsRaw (not_begun (the_terminal (codes "proc"))) refl
    sound_at only_at

raw_cut : (n : ℕ) (ts : List Lexeme) (fault : ReadFault) → Fails fault (whole (reader n) ts)
    → (count : ℕ) → length ts ≡ count → (answer : TextFault)
    → AtToken answer (FirstLeft count fault) → AtToken answer (Cut SpellsRaw ts)
raw_cut = whole_.fault_cuts reader SpellsRaw (not_begun (the_terminal (codes "proc"))) refl
    sound_at only_at

one_raw : (ts : List Lexeme) (t u : Theory) → SpellsRaw t ts → SpellsRaw u ts → t ≡ u
one_raw = whole_.one_value reader SpellsRaw (not_begun (the_terminal (codes "proc"))) refl
    sound_at only_at

-- a list spells at most one theory
pub one_theory : (ts : List Lexeme) (t u : Theory) → SpellsTheory t ts → SpellsTheory u ts → t ≡ u
one_theory ts t u l m =
    let same : l.raw ≡ m.raw = one_raw (in_its_version ts) l.raw m.raw l.spelled m.spelled in
    cc (l.sorted, m.sorted)

-- what holds at a fault gives what else holds there
at_token : (P Q : ℕ → Type 0) → ((token : ℕ) → P token → Q token) → (answer : TextFault)
    → AtToken answer P → AtToken answer Q
at_token P Q f (faults.BadText token) p = f token p
at_token P Q f faults.OutOfMemory p = tt

-- where the lexemes spell none in their version they spell none
pub none : (n : ℕ) (ts : List Lexeme) (fault : ReadFault)
    → Fails fault (whole (reader n) (in_its_version ts)) → (count : ℕ) (answer : TextFault)
    → AtToken answer (FirstLeft count fault)
    → AtToken answer (λ token. (t : Theory) → SpellsTheory t ts → ⊥)
none n ts fault e count answer t =
    at_token (λ token. (t : Theory) → SpellsRaw t (in_its_version ts) → ⊥)
    (λ token. (t : Theory) → SpellsTheory t ts → ⊥) (λ token no t l. no l.raw l.spelled) answer
    (none_raw n (in_its_version ts) fault e count answer t)

-- ---- the fault token

pub fault_token : (n : ℕ) (ts : List Lexeme) (fault : ReadFault)
    → Fails fault (whole (reader n) (in_its_version ts)) → (count : ℕ) → length ts ≡ count
    → (answer : TextFault) → AtToken answer (FirstLeft count fault) → AreOfTokens ts
    → AtToken answer (IsFaultToken SpellsTheory ts)
fault_token n ts fault e count same answer t each =
    at_token (Cut SpellsRaw (in_its_version ts)) (IsFaultToken SpellsTheory ts)
    (λ k. cut_there ts k each) answer
    (raw_cut n (in_its_version ts) fault e count (version_length ts ∙ same) answer t)
