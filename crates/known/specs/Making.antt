-- How a graph is made, and when the verdict on it is known.
use Rattle.std.specs.Prelude.{◌≡◌, ℕ, ◌≤◌, Bool, true, not, ◌&&◌, T, List, [], ◌∷◌, is_some, None}
use Rattle.execution.specs.Content.{Content, opening}
use Rattle.event.specs.Sizes.{size_denial}
use Rattle.execution.specs.Entries.{Entry, denial, step}
use Rattle.model.specs.Meaning.{Meaning}
use Rattle.verdict.specs.Answers.{Answer, RightAnswer}

-- sizes, and entries in their order
pub record Making : Type 0 where
  pub threads : ℕ
  pub locations : ℕ
  pub entries : List Entry

-- what entries make of a graph, one after the other
abbrev pub after_entries : Content → List Entry → Content
after_entries g [] = g
after_entries g (e ∷ es) = after_entries (step g e) es

-- none of them is denied
abbrev pub none_denied : Content → List Entry → Bool
none_denied g [] = true
none_denied g (e ∷ es) = not (is_some (denial g e)) && none_denied (step g e) es

-- the graph as it is opened, and as it is made
abbrev pub opened_as : Making → Content
opened_as x = opening x.threads x.locations

abbrev pub made : Making → Content
made x = after_entries (opened_as x) x.entries

-- a graph, a model or a pile of layers over one, and what a judge answers
pub record Case : Type 0 where
  pub graph : Making
  pub model : Meaning
  pub answer : Answer

-- nothing on the way to the graph is denied, and the answer is right on it, open or closed, with every sheet that is long enough
pub record Known (c : Case) : Type 0 where
  pub opens : size_denial c.graph.threads c.graph.locations ≡ None
  pub enters : T (none_denied (opened_as c.graph) c.graph.entries)
  pub answers : (closed : Bool) (n : ℕ) → 1280 ≤ n → RightAnswer c.model (record { content = made c.graph; closed = closed }) n c.answer
