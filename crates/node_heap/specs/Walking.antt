-- Needn't be believed: the contracts of private functions alone speak of it. What walks tell.
use Rattle.std.specs.Prelude.{ℕ, Bool, true, false, cond, List, [], Option, Some, None, is_some}
use Rattle.model_heap.specs.Lists.{before, head_of}
use Rattle.model_heap.specs.Entries.{Entry, Rows}
use Rattle.model_heap.specs.Marks as marks
use Rattle.node_heap.specs.declared.records.Record.{Record}
use Rattle.node_heap.specs.declared.walking.Mark.{Mark}
use Rattle.node_heap.specs.declared.walking.Place.{Place}
use Rattle.node_heap.specs.Links.{row}

-- what is told where a node is opened or closed
pub record Said : Type 0 where
  pub opens : Bool
  pub name : List ℕ
  pub number : ℕ
  pub list : ℕ
  pub is_below : Bool
  pub is_later : Bool
  pub has_kids : Bool

-- what a mark of the program tells
abbrev pub seen : Mark → Said
seen mark = record {
  opens = mark.opens;
  name = mark.node.now.name;
  number = mark.node.now.number;
  list = mark.node.now.list;
  is_below = is_some mark.node.now.parent;
  is_later = is_some mark.node.now.previous;
  has_kids = is_some mark.node.now.first;
}

-- what is told of what stands at a number
abbrev pub told : Rows → Bool → ℕ → Option Entry → Said
told rows opens n None = record {
  opens = opens;
  name = [];
  number = n;
  list = 0;
  is_below = false;
  is_later = false;
  has_kids = false;
}
told rows opens n (Some e) = record {
  opens = opens;
  name = e.name;
  number = n;
  list = e.list;
  is_below = is_some e.parent;
  is_later = is_some (before n (row rows e.parent));
  has_kids = is_some (head_of e.kids);
}

-- what a mark of a walk tells
abbrev pub said_in : Rows → marks.Mark → Said
said_in rows (marks.opens n) = told rows true n (rows n)
said_in rows (marks.closes n) = told rows false n (rows n)

-- down to the first child, if there is one
abbrev pub down_to : Option ℕ → ℕ → Place
down_to (Some first) key = record { key = first; opens = true }
down_to None key = record { key = key; opens = false }

-- on to the next sibling, or up to the parent
abbrev pub across_to : Option ℕ → Option ℕ → Option Place
across_to (Some next) parent = Some (record { key = next; opens = true })
across_to None (Some parent) = Some (record { key = parent; opens = false })
across_to None None = None

-- where a walk goes on
abbrev pub onward_from : Record → Place → Option Place
onward_from r here = cond here.opens (Some (down_to r.first here.key)) (across_to r.next r.parent)
