-- The limits of the language: one record, which every definition and every contract cites. The
-- meaning of formulas and programs has none of them; they bound files, documents and runs.
use Rattle.std.specs.Prelude.{ℕ, ℤ, pos, negsuc}

-- the counted quantities: those of texts and files, from nodes on those of runs, and at last that
-- of commands whose weakest precondition is computed and that of formulas that are watched
pub data LimitKind : Type 0 where
  file_limit nesting_limit text_limit variables_limit steps_limit : LimitKind
  nodes_limit identifier_limit number_limit depth_limit straight_limit watch_limit : LimitKind

-- the most that each may be
pub record Limits : Type 0 where
  -- bytes of a file or a document, and open brackets at one token of either
  pub file_bytes : ℕ
  pub file_nesting : ℕ
  pub document_nesting : ℕ
  -- bytes of a text, variables of a procedure, proof steps of a file
  pub text_bytes : ℕ
  pub variables : ℕ
  pub proof_steps : ℕ
  -- nodes of a document or grove, and the number of a new node or list
  pub nodes : ℕ
  pub identifier : ℕ
  -- the greatest integer (the least is one below its negative), and pending returns
  pub integer : ℕ
  pub depth : ℕ
  -- the number of a step, a premise or the version as a file writes it, and the fuel of a run
  pub numeral : ℕ
  pub fuel : ℕ
  -- commands, but for skip and blocks, of one whose weakest precondition is computed
  pub straight : ℕ
  -- the weight of a formula that is watched
  pub watch : ℕ
  -- steps of an offer of an assistant, and bytes of its text
  pub offer_steps : ℕ
  pub offer_bytes : ℕ

-- the limits of the language
abbrev pub standard_limits : Limits
standard_limits = record {
  file_bytes = 4194304;
  file_nesting = 100;
  document_nesting = 200;
  text_bytes = 4096;
  variables = 64;
  proof_steps = 65535;
  nodes = 100000;
  identifier = 4294967295;
  integer = 9223372036854775807;
  depth = 10000;
  numeral = 4294967295;
  fuel = 1000000;
  straight = 64;
  watch = 100000000;
  offer_steps = 10000;
  offer_bytes = 1048576;
}

-- the greatest and the least integer
abbrev pub greatest : Limits → ℤ
greatest limits = pos limits.integer

abbrev pub least : Limits → ℤ
least limits = negsuc limits.integer
