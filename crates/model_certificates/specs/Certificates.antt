-- Needn't be believed: the program's promise doesn't speak of it. Certificates: a mark, the head of
-- a theory, the steps of its proofs in order, and an end. Each item says its length, so that a
-- certificate can be read item by item.
use Rattle.model_limits.specs.Limits.{standard_limits}
use Rattle.std.specs.Prelude.{◌≡◌, ℕ, suc, ◌≤◌, List, [], ◌∷◌, ◌++◌, length, map, codes}
use Rattle.model_formulas.specs.Formulas.{Named}
use Rattle.model_commands.specs.Each.{Each}
use Rattle.model_commands.specs.Theories.{StepOf, ProcedureOf, Theory}
use Rattle.model_text.specs.Versions.{IsOfVersion}
use Rattle.model_grammar.specs.TheoryWriting.{step_line}
use Rattle.model_round_trip.specs.Writable.{IsWritableStep, IsWritableTheory}
use Rattle.model_certificates.specs.Numbers.{number_bytes, all_bytes, IsNumber}
use Rattle.model_certificates.specs.Commands.{step_bytes, head_bytes}
use Rattle.model_certificates.specs.Bounds.{StepFits, HeadFits}

-- a theory without its proofs; the number of a procedure, from 1, and a step of its proof; the end
pub data Item : Type 0 where
  head : Theory → Item
  proof_step : ℕ → StepOf Named → Item
  end : Item

-- what an item says
abbrev pub payload : Item → List ℕ
payload (head theory) = 0 ∷ head_bytes theory
payload (proof_step procedure step) = 1 ∷ (number_bytes procedure ++ step_bytes step)
payload end = 2 ∷ []

-- behind its length
abbrev pub item_bytes : Item → List ℕ
item_bytes item = number_bytes (length (payload item)) ++ payload item

-- A step is written in a version, which is the head's: no name is `insertBefore` in version 2, and
-- no command is in another. A head says its own.
abbrev pub IsWritableItem : ℕ → Item → Type 0
IsWritableItem version (head theory) = IsWritableTheory theory
IsWritableItem version (proof_step procedure step) =
    IsWritableStep step × Each (IsOfVersion version) (step_line version step)
IsWritableItem version end = Unit

abbrev pub ItemFits : Item → Type 0
ItemFits (head theory) = HeadFits theory
ItemFits (proof_step procedure step) = IsNumber procedure × StepFits step
ItemFits end = Unit

-- an item of certificates of the version: it can be written, it has a spelling, and that is no
-- longer than a file
pub record IsItem (version : ℕ) (item : Item) : Type 0 where
  pub written : IsWritableItem version item
  pub fits : ItemFits item
  pub short : length (payload item) ≤ standard_limits.file_bytes

-- the procedure, and the theory, without proofs
abbrev pub without_proof : ProcedureOf Named → ProcedureOf Named
without_proof procedure = record {
  name = procedure.name;
  params = procedure.params;
  results = procedure.results;
  sort = procedure.sort;
  pre = procedure.pre;
  post = procedure.post;
  body = procedure.body;
  proof = [];
}

abbrev pub without_proofs : Theory → Theory
without_proofs theory = record {
  version = theory.version;
  logic = theory.logic;
  procedures = map without_proof theory.procedures;
}

-- the steps of procedures, the first of which has this number, and the end
abbrev pub proof_items : ℕ → List (ProcedureOf Named) → List Item
proof_items n [] = end ∷ []
proof_items n (procedure ∷ others) =
    map (proof_step n) procedure.proof ++ proof_items (suc n) others

-- the items of a theory, in the order in which they stand
abbrev pub items_of : Theory → List Item
items_of theory = head (without_proofs theory) ∷ proof_items 1 theory.procedures

-- what a certificate begins with
abbrev pub mark : List ℕ
mark = codes "DLC1"

abbrev pub certificate_bytes : Theory → List ℕ
certificate_bytes theory = mark ++ all_bytes item_bytes (items_of theory)

-- the bytes are a certificate, and it spells the theory
pub record SpellsCertificate (theory : Theory) (bytes : List ℕ) : Type 0 where
  pub items : Each (IsItem theory.version) (items_of theory)
  pub spelled : bytes ≡ certificate_bytes theory
