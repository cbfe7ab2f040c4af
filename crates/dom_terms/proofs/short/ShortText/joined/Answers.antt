use Rattle.std.proofs.Common.{rules, ◌≡◌, ◌+◌, ◌-◌, length, arith, ap, ◌∙◌}
use Rattle.std.proofs.lemmas.Slice.{take-put_mid}
use Rattle.std.proofs.lemmas.Str.{IsUtf8-had, IsUtf8-append}
use Rattle.dom_terms.proofs.short.ShortText.joined.Goals as goal

pub invariant_of-result : goal.invariant_of-result
invariant_of-result c =
    let len = c.self.inside.len in
    let whole = len + length c.args.more.now in
    let new : c.copy_from_slice.new.self ≡ c.args.more.now =
    c.copy_from_slice.ensures.after ∙ c.as_bytes.ensures.value in
    let longer : whole ≡ len + length c.copy_from_slice.new.self = omega (arith, ap length new) in (
      omega (arith, c.self.invariant.0, c.if-more-len.false),
      ∣
          rw (
            take-put_mid len (whole - len) c.self.inside.bytes c.copy_from_slice.new.self whole
                longer
                (search rules),
            new,
          ) (IsUtf8-append _ _ (IsUtf8-had _ c.self.invariant.1) c.utf8.more)
          ∣₁,
    )
