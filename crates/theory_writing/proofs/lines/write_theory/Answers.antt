use Rattle.std.proofs.Common.{sym, subst}
use Rattle.std.proofs.lemmas.Str.{IsUtf8-had}
use Rattle.model_round_trip.specs.ReadBack.{ReadsAs}
use Rattle.theory_syntax.specs.Theories.{theory_of}
use Rattle.theory_writing.proofs.LineLemmas.{whole_text}
use Rattle.theory_writing.proofs.WrittenTexts.{theory_back}
use Rattle.theory_writing.proofs.lines.write_theory.Goals as goal

pub returns-clause-written : goal.returns-clause-written
returns-clause-written c = rw (
  c.in_ok-push_each-2.ensures,
  c.in_ok-push_each.ensures,
  c.in_ok-push_str-2.ensures,
  c.in_ok-push_numeral.ensures,
  c.in_ok-push_str.ensures,
  c.new-text.ensures,
  c.as_slice.ensures,
  c.as_slice-2.ensures,
  c.from.ensures,
) (whole_text c.args.theory.now)

pub returns-clause-reads_back : goal.returns-clause-reads_back
returns-clause-reads_back c can sorted =
    let written = returns-clause-written c in
    subst (ReadsAs (theory_of c.args.theory.now)) (sym written)
    (theory_back (theory_of c.args.theory.now) _ (IsUtf8-had _ c.is_utf8.ensures) written can
    sorted)
