-- Refusals, handed on and read.
use Rattle.std.proofs.Common.{◌≡◌, ℕ, List, Option, Some, None, option_map, refl, sym, subst, Result, Ok, Err, IfErr, IfOk}
use Rattle.std.specs.Prelude.{slice_get}
use Rattle.model_limits.specs.Limits.{LimitKind, standard_limits}
use Rattle.model_commands.specs.Theories.{Theory}
use Rattle.model_text.specs.Lexemes.{Lexeme, bad_lexeme}
use Rattle.model_text.specs.Nesting.{lexemes_of}
use Rattle.model_text.specs.FaultTokens.{AreOfTokens, IsFaultToken}
use Rattle.model_text.proofs.OfTokens.{text_seen}
use Rattle.model_grammar.specs.Theories.{SpellsTheory}
use Rattle.model_answers.specs.Texts.{limit_passed, theory_limit, IsFile}
use Rattle.model_answers.specs.Output.{bad_text_line}
use Rattle.model_limits.specs.FirstOf.{or_else}
use Rattle.model_files.specs.FileFaults.{FileFault, first_file_fault}
use Rattle.domcheck_core.specs.Answers.{Answer, limit_answer, fault_answer, Unread, over_limit, spells_nothing, NoFile, unread, refused, theory_refusal}
use Rattle.domcheck_core.specs.Refusals.{IfAnswer, Answers, IsRefusal}
use Rattle.domcheck_core.specs.declared.replies.Refused.{Refused}
use Rattle.domcheck_core.specs.declared.replies.Refused.TheVariants as r
use Rattle.domcheck_core.specs.declared.status.Status.{Status}
use Rattle.domcheck_core.specs.declared.status.Status.TheVariants as status

-- an error that `?` hands on is the one that came
pub handed_on : {X : Type 0} (P : Refused → Type 0) (result : Result X Refused) (y came : Refused)
    → result ≡ Err y → y ≡ came → P came → IfErr result P
handed_on P result y came e d h = subst (λ z. IfErr z P) (sym e) (subst P (sym d) h)

-- what follows of an answer follows of what is refused
pub weaker : (P Q : Status → List ℕ → Type 0) (why : Refused)
    → ((s : Status) (o : List ℕ) → P s o → Q s o) → IfAnswer why P → IfAnswer why Q
weaker P Q (r.Answer s report) f h = f s _ h
weaker P Q r.OutOfMemory f h = tt

-- the answer to what is refused is one that was told
pub told : {R E : Type 0} (status_in : R → Status) (line_in : R → List ℕ)
    (P : Status → List ℕ → Type 0) (why : Refused) (reply : Result R E) → IfAnswer why P
    → IfOk reply (λ x. Answers why (λ s o. (status_in x ≡ s) × (line_in x ≡ o)))
    → IfOk reply (λ x. P (status_in x) (line_in x))
told status_in line_in P (r.Answer s report) (Ok x) h e = rw (e.0, e.1) h
told status_in line_in P r.OutOfMemory (Ok x) h e = absurd e
told status_in line_in P why (Err y) h e = tt

pub told_one : (P : Status → List ℕ → Type 0) (why : Refused) (s : Status) (o : List ℕ)
    → IfAnswer why P → Answers why (λ t p. (s ≡ t) × (o ≡ p)) → P s o
told_one P (r.Answer t report) s o h e = rw (e.0, e.1) h
told_one P r.OutOfMemory s o h e = absurd e

-- TEXTS
module _ {A : Type 0} (Spells : A → List Lexeme → Type 0) (most : ℕ) (bad_line : ℕ → List ℕ)
    (bytes : List ℕ) where
  -- one that passes a limit isn't read
  pub over : (why : Refused) → IsRefusal why (option_map limit_answer (limit_passed most bytes))
      → IfAnswer why (Unread Spells most bad_line bytes)
  over why = weaker (λ s o. option_map limit_answer (limit_passed most bytes) ≡ Some (s, o))
      (Unread Spells most bad_line bytes) why (λ s o e. over_limit e)

  -- nor one whose tokens spell nothing
  pub nothing : (ts : List Lexeme) (token : ℕ) → ts ≡ lexemes_of bytes
      → limit_passed most bytes ≡ None → ((a : A) → Spells a ts → ⊥)
      → (AreOfTokens ts → IsFaultToken Spells ts token)
      → Unread Spells most bad_line bytes status.BadText (bad_line token)
  nothing ts token same passes none fault = spells_nothing token passes
      (λ a spelled. none a (subst (Spells a) (sym same) spelled))
      (subst (λ (z : List Lexeme). IsFaultToken Spells z token) same
      (fault (subst AreOfTokens (sym same) (text_seen bytes))))

-- what is read of a source to its end is spelled by the text, which passes no limit
pub record IsRead {A : Type 0} (Spells : A → List Lexeme → Type 0) (most : ℕ) (bytes : List ℕ)
    (a : A) : Type 0 where
  pub passes : limit_passed most bytes ≡ None
  pub spelled : Spells a (lexemes_of bytes)

pub read_whole : {A : Type 0} (Spells : A → List Lexeme → Type 0)
    → ((a : A) (s : List Lexeme) → Spells a s → (place : ℕ)
    → slice_get s place ≡ Some bad_lexeme → ⊥)
    → (most : ℕ) (bytes : List ℕ) (source seen : List Lexeme) → seen ≡ source
    → (((place : ℕ) → slice_get source place ≡ Some bad_lexeme → ⊥)
    → limit_passed most bytes ≡ None)
    → (limit_passed most bytes ≡ None → source ≡ lexemes_of bytes)
    → (a : A) → Spells a seen → IsRead Spells most bytes a
read_whole Spells no_bad most bytes source seen same passes whole a spelled =
    let here : Spells a source = subst (Spells a) same spelled in
    let none : limit_passed most bytes ≡ None = passes (no_bad a source here) in
    record { passes = none; spelled = subst (Spells a) (whole none) here }

-- FILES
-- a text that isn't read is no file
pub unread_file : (bytes : List ℕ) (why : Refused)
    → IfAnswer why (Unread SpellsTheory standard_limits.file_nesting bad_text_line bytes)
    → IfAnswer why (NoFile bytes)
unread_file bytes why =
    weaker (Unread SpellsTheory standard_limits.file_nesting bad_text_line bytes) (NoFile bytes)
    why (λ s o a. unread a)

-- and neither is one whose theory is refused
pub refused_file : (bytes : List ℕ) (theory : Theory) (why : Refused)
    → limit_passed standard_limits.file_nesting bytes ≡ None
    → SpellsTheory theory (lexemes_of bytes)
    → IsRefusal why (theory_refusal theory) → IfAnswer why (NoFile bytes)
refused_file bytes theory why read spelled =
    weaker (λ s o. theory_refusal theory ≡ Some (s, o)) (NoFile bytes) why
    (λ s o e. refused theory read spelled e)

-- a theory that isn't refused makes one
no_fault : (fault : Option FileFault) (limit : Option Answer)
    → or_else (option_map fault_answer fault) limit ≡ None → (fault ≡ None) × (limit ≡ None)
no_fault None limit e = (refl, e)
no_fault (Some fault) limit e = absurd cc

no_limit : (limit : Option LimitKind) → option_map limit_answer limit ≡ None → limit ≡ None
no_limit None e = refl
no_limit (Some kind) e = absurd cc

pub is_file : (bytes : List ℕ) (theory : Theory)
    → limit_passed standard_limits.file_nesting bytes ≡ None
    → SpellsTheory theory (lexemes_of bytes)
    → theory_refusal theory ≡ None → IsFile bytes theory
is_file bytes theory read spelled e =
    let both = no_fault (first_file_fault theory) (option_map limit_answer (theory_limit theory)) e
    in record {
      read = read;
      spelled = spelled;
      well_formed = both.0;
      within = no_limit (theory_limit theory) both.1;
    }
