use Rattle.std.proofs.Common.{◌≡◌, ℕ, Some, None, ap, ◌∙◌, rules}
use Rattle.event.specs.declared.event.Label.{Label}
use Rattle.event.specs.Labels.{location}
use Rattle.execution.specs.Content.{label_of}
use Rattle.graph.specs.View.{view}
use Rattle.model.proofs.Places.{of_label}
use Rattle.model.proofs.laying.locations.location_of.Goals as goal

pub returns : goal.returns
returns c =
    let g = view c.args.graph.now in
    let some : (l : Label) → c.label.result ≡ Some l → c.and_then.result ≡ location l = λ l e. search rules in
    let none : c.label.result ≡ None → c.and_then.result ≡ None = λ e. search rules in
    record { of_every_access = of_label location g c.from.result c.label.result _ c.label.ensures.of_every_event_that_stands some none ∙ ap (λ (k : ℕ). location (label_of g k)) c.from.ensures }
