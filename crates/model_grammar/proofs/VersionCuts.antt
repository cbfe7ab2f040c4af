-- The fault token of a theory, from where its list is cut as it is seen in its version.
use Rattle.std.proofs.Common.{◌≡◌, ℕ, suc, ◌≤◌, ◌==◌, List, [], ◌∷◌, ◌++◌, length, take, drop, refl, sym, ap, ◌∙◌, subst, append_assoc, length-append, arith}
use Rattle.std.proofs.lemmas.List.{take-append-drop, length-take-le}
use Rattle.model_commands.specs.Theories.{Theory}
use Rattle.model_text.specs.Lexemes.{Lexeme, number_lexeme}
use Rattle.model_text.specs.Versions.{seen_in, in_its_version}
use Rattle.model_text.specs.FaultTokens.{AreOfTokens, Begins, IsFaultToken}
use Rattle.model_text.proofs.Usual.{of_tokens}
use Rattle.model_text.proofs.Versions.{either_same, version_length, seen_append, seen_length, domlogic, version_in, seen_so, front_seen, front_again, one_seen, seen_behind}
use Rattle.model_text.proofs.Cuts.{Cut, split_rest, cut_fault}
use Rattle.model_grammar.specs.Theories.{SpellsRaw, theory, small_number, SpellsTheory}
use Rattle.model_grammar.specs.Sorts.{with_sorts}

-- a raw theory begins with its version
begins_with_version : {t : Theory} {s : List Lexeme} → SpellsRaw t s
    → (rest : List Lexeme) × (s ≡ domlogic ∷ number_lexeme t.version ∷ rest)
begins_with_version (theory {lines = lines} {procedures = procedures} (small_number n le) m k) =
    (lines ++ procedures, refl)

-- Where the lexemes, as they are seen, are cut, the fault token stands. They are a front, with the
-- next one and the others behind it.
module _ (ts front tail : List Lexeme) (whole : ts ≡ front ++ tail) (k : ℕ)
    (each : AreOfTokens ts) (cut : Cut SpellsRaw (in_its_version ts) k)
    (same : length front ≡ length cut.front) where
  abbrev v : ℕ
  v = version_in ts

  in_two : seen_in v front ++ seen_in v tail ≡ cut.front ++ cut.rest
  in_two = sym (seen_append v front tail) ∙ ap (seen_in v) (sym whole) ∙ sym (seen_so ts)
      ∙ cut.whole

  parts : (seen_in v front ≡ cut.front) × (seen_in v tail ≡ cut.rest)
  parts = split_rest cut.front cut.rest (seen_in v front) (seen_in v tail) in_two (omega (
    arith,
    ap (length {A = Lexeme}) in_two,
    length-append (seen_in v front) (seen_in v tail),
    length-append cut.front cut.rest,
    seen_length v front,
    same,
  ))

  front_begins : Begins SpellsTheory front
  front_begins =
      let more : List Lexeme = cut.more in
      let seen : seen_in v front ++ more ≡ cut.front ++ more =
      ap (λ (z : List Lexeme). z ++ more) parts.0 in
      let begins = begins_with_version cut.spells in
      let again : in_its_version (front ++ more) ≡ seen_in v front ++ more =
      front_again front tail more cut.value.version begins.0 cut.usual
      (subst (λ (z : List Lexeme). seen_in (version_in z) front ++ more
      ≡ domlogic ∷ number_lexeme cut.value.version ∷ begins.0) whole (seen ∙ begins.1))
      ∙ (λ j. seen_in (version_in (sym whole j)) front ++ more) in (
        with_sorts cut.value,
        more,
        record {
          raw = cut.value;
          spelled = subst (SpellsRaw cut.value) (sym (again ∙ seen)) cut.spells;
          sorted = refl;
        },
        of_tokens more cut.usual,
      )

  no_longer : (t : Lexeme) (others : List Lexeme) → tail ≡ t ∷ others → (a : Theory)
      (u : List Lexeme) → SpellsTheory a (front ++ (t ∷ u)) → ⊥
  no_longer t others is a u l =
      let m : ℕ = l.raw.version in
      let longer : List Lexeme = front ++ (t ∷ []) in
      let two : front ++ (t ∷ u) ≡ longer ++ u = sym (append_assoc front (t ∷ []) u) in
      let spelled : SpellsRaw l.raw (in_its_version (longer ++ u)) =
      subst (λ (z : List Lexeme). SpellsRaw l.raw (in_its_version z)) two l.spelled in
      let begins = begins_with_version spelled in
      let split : ts ≡ longer ++ others =
      whole ∙ ap (λ (z : List Lexeme). front ++ z) is
      ∙ sym (append_assoc front (t ∷ []) others) in
      let here : in_its_version (longer ++ u) ≡ cut.front ++ (one_seen v t ∷ seen_in m u) =
      front_seen longer others u m begins.0 begins.1
      ∙ (λ j. seen_in (version_in (sym split j)) longer ++ seen_in m u)
      ∙ ap (λ (z : List Lexeme). z ++ seen_in m u)
      (seen_append v front (t ∷ []) ∙ (λ j. parts.0 j ++ (seen_behind v t []
      ∙ ap (λ (z : List Lexeme). one_seen v t ∷ z) (either_same (v == 2) [])) j))
      ∙ append_assoc cut.front (one_seen v t ∷ []) (seen_in m u) in
      cut.dead (one_seen v t) (seen_in v others)
      (sym parts.1 ∙ ap (seen_in v) is ∙ seen_behind v t others) l.raw (seen_in m u)
      (subst (SpellsRaw l.raw) here spelled)

  at_the_cut : IsFaultToken SpellsTheory ts (suc (length front))
  at_the_cut = cut_fault SpellsTheory ts front tail each whole front_begins no_longer

-- so it does in the list as it stands in the file
pub cut_there : (ts : List Lexeme) (k : ℕ) → AreOfTokens ts → Cut SpellsRaw (in_its_version ts) k
    → IsFaultToken SpellsTheory ts k
cut_there ts k each cut =
    let n : ℕ = length cut.front in
    let fits : n ≤ length ts = omega (
      arith,
      version_length ts,
      ap (length {A = Lexeme}) cut.whole,
      length-append cut.front cut.rest,
    ) in
    let count : length (take n ts) ≡ n = length-take-le n ts fits in
    subst (IsFaultToken SpellsTheory ts) (ap suc count ∙ sym cut.number)
    (at_the_cut ts (take n ts) (drop n ts) (sym (take-append-drop n ts)) k each cut count)
