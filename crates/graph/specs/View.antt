-- A graph as its content.
use Rattle.graph.specs.declared.tables.Graph.{Graph}
use Rattle.graph.specs.declared.open.Open.{Open}
use Rattle.graph.specs.declared.closed.Closed.{Closed}
use Rattle.execution.specs.Content.{Content}
use Rattle.graph.specs.Tables.{content}

abbrev pub view : Graph → Content
view g = content g.threads g.locations g.events g.sources g.placed

abbrev pub of_open : Open → Content
of_open o = view o.graph

abbrev pub of_closed : Closed → Content
of_closed c = view c.graph
