use Rattle.std.proofs.Common.{◌≡◌, ◌≤◌, length, arith, ◌∙◌, true}
use Rattle.std.specs.Result.{is_ok}
use Rattle.outside_io.proofs.Pieces.{length-found, GivesPiece-none, GivesPiece-step}
use Rattle.outside_io.proofs.library.read_all.Goals as goal

pub returns-then-count-eq0-clause-whole : goal.returns-then-count-eq0-clause-whole
returns-then-count-eq0-clause-whole g c b told =
    let told_now = c.pieces.invariant.kept c.args.name.now b told in
    let piece = rw c.if-count-eq0.true at (c.in-Ok.ensures.bytes b told_now) in
    GivesPiece-none c.pieces.found.items b c.fetch.new.into c.len.result
    (c.len.ensures ∙ c.pieces.found.ok.0) (c.pieces.invariant.begun b told) piece
    (omega (arith, c.fetch.auto.into))

pub pieces-preserved : goal.pieces-preserved
pieces-preserved g c =
    let ok : is_ok c.extend_from_slice.result ≡ true =
    cc (c.is_err.ensures.negation, c.if-is_err.false) in
    let fits : c.in-Ok.count ≤ length c.fetch.new.into =
    omega (arith, c.in-Ok.ensures.bound, c.fetch.auto.into) in
    let items = rw ok at c.extend_from_slice.ensures.items in
    record {
      small =
          rw (items, length-found c.pieces.found.items c.fetch.new.into c.in-Ok.count fits)
          (omega (arith, c.len-in-pieces.ensures, c.pieces.found.ok.0, c.pieces.invariant.small));
      begun = λ b told.
          rw items
          (GivesPiece-step c.pieces.found.items b c.fetch.new.into c.len.result c.in-Ok.count
          (c.len.ensures ∙ c.pieces.found.ok.0) fits
          (c.pieces.invariant.begun b told)
          (c.in-Ok.ensures.bytes b (c.pieces.invariant.kept c.args.name.now b told)));
      kept = λ other b told. c.fetch.ensures.kept other b (c.pieces.invariant.kept other b told);
      later = λ other. omega (arith, c.pieces.invariant.later other, c.fetch.ensures.later other);
    }
