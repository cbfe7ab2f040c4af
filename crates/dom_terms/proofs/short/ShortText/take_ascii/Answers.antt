use Rattle.std.proofs.Common.{◌≡◌, ◌<◌, true, rules, arith, ◌∙◌, sym, subst}
use Rattle.std.proofs.lemmas.Bool.{ltb-true}
use Rattle.std.proofs.lemmas.List.{take_more_set}
use Rattle.std.proofs.lemmas.Str.{IsUtf8-had, IsUtf8-append, IsUtf8-encode, encode_ascii}
use Rattle.std.specs.Char.{is_ascii}
use Rattle.std.specs.Str.{IsUtf8}
use Rattle.dom_terms.proofs.short.ShortText.take_ascii.Goals as goal

pub invariant_of-self : goal.invariant_of-self
invariant_of-self c =
    let len = c.self.inside.len in
    let room : len < 14 = omega (arith, c.self.invariant.0, c.if-len-eq-MOST_SHORT.false) in
    let is : is_ascii c.args.character ≡ true =
    sym c.is_ascii.ensures ∙ c.if-not-is_ascii.false in
    let own = subst IsUtf8 (encode_ascii c.args.character (ltb-true c.args.character 128 is))
    (IsUtf8-encode c.args.character (search rules)) in (
      omega (arith, room),
      ∣
          rw (take_more_set c.self.inside.bytes len c.args.character
          (omega (arith, c.self.told, room)))
          (IsUtf8-append _ _ (IsUtf8-had _ c.self.invariant.1) own)
          ∣₁,
    )
