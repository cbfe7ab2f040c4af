-- Needn't be believed: what a walk over numbers knows, as the definitions have it, and what it
-- means that the walk is theirs.
use Rattle.std.specs.Prelude.{◌≡◌, Bool, true, false, Option, Some, None}
use Rattle.std.specs.Option.{option_map}
use Rattle.dom_terms.specs.Sorts.{data_sort_of, sort_of}
use Rattle.letter_bindings.specs.Known as known
use Rattle.formula_table.specs.declared.tables.Table.{Table}
use Rattle.formula_table.specs.Forms.{form_at, term_at}
use Rattle.numbered_formulas.specs.Variables.{variable_at}
use Rattle.row_walks.specs.declared.known.Places.{Places}
use Rattle.row_walks.specs.declared.known.Terms.{Terms}
use Rattle.row_walks.specs.declared.known.Datas.{Datas}
use Rattle.row_walks.specs.declared.known.Known.{Known}

-- WHAT IS KNOWN
abbrev pub places_at : Table → Places → known.FormulaPlaces
places_at t ps = record {
  P = option_map (form_at t) ps.p;
  Q = option_map (form_at t) ps.q;
  R = option_map (form_at t) ps.r;
  A = option_map (form_at t) ps.a;
  B = option_map (form_at t) ps.b;
  K = option_map (form_at t) ps.k;
  H = option_map (form_at t) ps.h;
}

abbrev pub terms_at : Table → Terms → known.TermPlaces
terms_at t ts = record {
  E = option_map (term_at t) ts.e;
  F = option_map (term_at t) ts.f;
  S = option_map (term_at t) ts.s;
  I = option_map (term_at t) ts.i;
  L = option_map (term_at t) ts.l;
  T = option_map (term_at t) ts.t;
  J = option_map (term_at t) ts.j;
  M = option_map (term_at t) ts.m;
  G = option_map (term_at t) ts.g;
  V = option_map (term_at t) ts.v;
  Y = option_map (term_at t) ts.y;
  N = option_map (term_at t) ts.n;
}

abbrev pub datas_of : Datas → known.DataPlaces
datas_of ds = record {
  h = option_map data_sort_of ds.h;
  k = option_map data_sort_of ds.k;
  j = option_map data_sort_of ds.j;
}

abbrev pub known_at : Table → Known → known.Known
known_at t k = record {
  formulas = places_at t k.formulas;
  belows = places_at t k.belows;
  terms = terms_at t k.terms;
  datas = datas_of k.datas;
  sort = option_map sort_of k.sort;
  hole = option_map (option_map data_sort_of) k.hole;
  x = option_map (variable_at t) k.x;
  x_sort = option_map sort_of k.x_sort;
  put = option_map (form_at t) k.put;
}

-- THE WALK ends well, and this is known; or it is refused
abbrev pub Walks : Bool → known.Known → Option known.Known → Type 0
Walks true n o = o ≡ Some n
Walks false n o = o ≡ None
