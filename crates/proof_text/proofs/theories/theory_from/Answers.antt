-- What is read with sorts is what is read without, with its sorts, and it is refused where that is.
use Rattle.std.proofs.Common.{◌≡◌, sym, ◌∙◌, subst, List}
use Rattle.model_text.specs.Lexemes.{Lexeme}
use Rattle.model_text.proofs.Versions.{version_length}
use Rattle.model_grammar.specs.Theories.{SpellsRaw}
use Rattle.token_readers.specs.Giving.{Fails}
use Rattle.token_readers.specs.Spelling.{whole}
use Rattle.token_readers.specs.declared.fault.ReadFault.{ReadFault}
use Rattle.token_readers.specs.declared.fault.ReadFault.TheVariants as faults
use Rattle.proof_text.specs.SortedTheories.{sorted_theory_at}
use Rattle.proof_text.specs.Theories.{theory_at}
use Rattle.proof_text.proofs.Exact.{found, within, none, fault_token}
use Rattle.proof_text.proofs.SortedReader.{read-raw, not-read-raw}
use Rattle.proof_text.proofs.theories.theory_from.Goals as goal

fails-raw : (fault : ReadFault) (ts : List Lexeme)
    → Fails fault (whole (sorted_theory_at 128 4294967295) ts)
    → Fails fault (whole (theory_at 128 4294967295) ts)
fails-raw faults.Memory ts e = tt
fails-raw (faults.Text k) ts e = not-read-raw 128 4294967295 ts _ e

-- the same of lexemes as they are seen in their version
fails-seen : (fault : ReadFault) (own seen : List Lexeme) → own ≡ seen
    → Fails fault (whole (sorted_theory_at 128 4294967295) own)
    → Fails fault (whole (theory_at 128 4294967295) seen)
fails-seen fault own seen same e =
    subst (λ (z : List Lexeme). Fails fault (whole (theory_at 128 4294967295) z)) same
    (fails-raw fault own e)

pub of_whole-requires : goal.of_whole-requires
of_whole-requires c =
    within 128 _ _ (fails-seen _ _ _ c.in_its_version.ensures c.in-Err.ensures.read) _
    (version_length _ ∙ sym c.count.ensures)

pub returns-in-Ok-clause-found : goal.returns-in-Ok-clause-found
returns-in-Ok-clause-found c =
    let read = read-raw 128 4294967295 _ _ c.in-Ok.ensures.read in record {
      raw = read.0;
      spelled = subst (SpellsRaw read.0) c.in_its_version.ensures (found 128 _ _ read.1);
      sorted = read.2;
    }

pub returns-in-Err-clause-bad_text : goal.returns-in-Err-clause-bad_text
returns-in-Err-clause-bad_text c =
    none 128 _ _ (fails-seen _ _ _ c.in_its_version.ensures c.in-Err.ensures.read) _ _
    c.of_whole.ensures

pub returns-in-Err-clause-fault_token : goal.returns-in-Err-clause-fault_token
returns-in-Err-clause-fault_token c each =
    fault_token 128 _ _ (fails-seen _ _ _ c.in_its_version.ensures c.in-Err.ensures.read) _
    (sym c.count.ensures) _ c.of_whole.ensures each
