use Rattle.std.proofs.Common.{ℕ, ◌<◌, List, length, get_or, ap, arith}
use Rattle.event.specs.Labels.{is_write}
use Rattle.execution.specs.Content.{label_of}
use Rattle.graph.specs.View.{view}
use Rattle.execution.proofs.Tests.{left}
use Rattle.execution.proofs.Among.{write_among}
use Rattle.graph.proofs.Soundness.{sound_of}
use Rattle.verdict.proofs.Filling.{nothing_left, left_out}
use Rattle.search.proofs.Left.{opens_from, fewer_placed, fewer_left_out}
use Rattle.search.proofs.Walking.{lowest, none_left, tried_one_more, found_first, fails_at_once, fails_further_on, none_tells, found_tells}
use Rattle.search.proofs.filling.+fill_fits.Goals as goal
use Rattle.search.proofs.filling.+fill_fits.Goals.{fill-in-Some-placed_after+in_default-fill+else-not-others_fit, fill-in_default-placed_after}

pub fill-returns-in_default : goal.fill-returns-in_default
fill-returns-in_default g t c =
    nothing_left (g.M.Model.meaning c.args.model.now) c.args.from (view c.args.graph.now) (sound_of c.args.graph.now)
    c.in_default.ensures.lowest_open_write_from_there c.requires

pub fill-fill-requires : goal.fill-fill-requires
fill-fill-requires g t c κs within =
    let next = c.in-Some.ensures.lowest_open_write_from_there in
    let s = sound_of c.args.graph.now in
    let v = view c.args.graph.now in
    let put = c.in-Some-placed_after.ensures in
    let fewer = fewer_placed v s c.args.from c.in-Some.write next.0 next.1 (lowest v s c.args.from c.in-Some.write next) _ put.0 in
    (omega (arith, c.decreases, fewer, ap (opens_from c.args.from) put.1), (within, put.2))

pub fill-returns-in-Some-fill : goal.fill-returns-in-Some-fill
fill-returns-in-Some-fill g t c =
    let m = g.M.Model.meaning c.args.model.now in
    let it = ap (λ (xs : List ℕ). get_or xs c.loop-after.after-index 0) c.placed-after-items.ensures.placed_writes_in_order in
    let put = c.in-Some-placed_after.ensures in
    let within : c.loop-after.after-index < length (view c.args.graph.now).placed = omega (arith, ap length c.placed-after-items.ensures.placed_writes_in_order) in
    found_first (view c.args.graph.now) (sound_of c.args.graph.now) c.args.from c.in-Some.write c.in-Some.ensures.lowest_open_write_from_there
    m c.loop-after.after-index _ it c.loop-after.invariant within put.0 (view c.in-Some-placed_after.tried) (view c.in-Some-fill.full) put.1 c.in-Some-fill.ensures

pub fill-fits-requires : goal.fill-fits-requires
fill-fits-requires g t c κs within =
    let next = c.in-Some.ensures.lowest_open_write_from_there in
    let s = sound_of c.args.graph.now in
    let v = view c.args.graph.now in
    let fewer = fewer_left_out v s c.args.from c.in-Some.write next.0 next.1 (lowest v s c.args.from c.in-Some.write next) in
    (omega (arith, c.decreases, fewer), (within, c.requires))

pub fill-returns-then-not-fits : goal.fill-returns-then-not-fits
fill-returns-then-not-fits g t c =
    let m = c.args.model.now in
    let next = c.in-Some.ensures.lowest_open_write_from_there in
    λ some. c.if-not-fits.ensures
    (left_out (g.M.Model.meaning m) (g.met.M.Model.rules m)
    (view c.args.graph.now) (sound_of c.args.graph.now) c.args.from _ (omega (arith, next.0)) some)

pub fill-loop-after-preserved : goal.fill-loop-after-preserved
fill-loop-after-preserved g t c =
    let x = c.args.model.now in
    let m = g.M.Model.meaning x in
    let s = sound_of c.args.graph.now in
    let v = view c.args.graph.now in
    let it = ap (λ (xs : List ℕ). get_or xs c.loop-after.after-index 0) c.placed-after-items.ensures.placed_writes_in_order in
    tried_one_more v s c.args.from c.in-Some.write c.in-Some.ensures.lowest_open_write_from_there
    m c.loop-after.after-index _ it c.loop-after.invariant (elim c.match-placed_after.branch [
      | fill-in-Some-placed_after+in_default-fill+else-not-others_fit w ↦
          fails_further_on m c.args.from v s c.in-Some.write _ (view w.in-Some-placed_after.tried) w.in-Some-placed_after.ensures.1 w.in_default-fill.ensures
      | fill-in_default-placed_after w ↦
          fails_at_once m c.args.from v s c.in-Some.write _
          (g.met.M.Model.rules x)
          w.in_default-placed_after.ensures
    ])

pub fill-returns : goal.fill-returns
fill-returns g t c =
    let m = g.M.Model.meaning c.args.model.now in
    none_left (view c.args.graph.now) (sound_of c.args.graph.now) c.args.from c.in-Some.write c.in-Some.ensures.lowest_open_write_from_there
    m c.loop-after.after-index (omega (arith, ap length c.placed-after-items.ensures.placed_writes_in_order)) c.loop-after.invariant

pub fits-overflow_add-write : goal.fits-overflow_add-write
fits-overflow_add-write g t c =
    let v = view c.args.graph.now in
    let among = write_among v c.in-Some.write (left (is_write (label_of v c.in-Some.write)) _ c.in-Some.ensures.lowest_open_write_from_there.1) in
    omega (arith, among, (sound_of c.args.graph.now).few_events)

pub fits-fits-requires : goal.fits-fits-requires
fits-fits-requires g t c κs within =
    let next = c.in-Some.ensures.lowest_open_write_from_there in
    let s = sound_of c.args.graph.now in
    let v = view c.args.graph.now in
    let fewer = fewer_left_out v s c.args.from c.in-Some.write next.0 next.1 (lowest v s c.args.from c.in-Some.write next) in
    (omega (arith, c.decreases, fewer), (within, c.requires))

pub fits-returns-then-fits : goal.fits-returns-then-fits
fits-returns-then-fits g t c =
    found_tells (g.M.Model.meaning c.args.model.now) c.args.from (view c.args.graph.now) c.fill.result c.fill.ensures c.is_some.result c.is_some.ensures

pub fits-returns-else-fits : goal.fits-returns-else-fits
fits-returns-else-fits g t c =
    let m = c.args.model.now in
    let next = c.in-Some.ensures.lowest_open_write_from_there in
    none_tells c.fits.result _ c.if-fits.false (λ some. c.if-fits.ensures
    (left_out (g.M.Model.meaning m) (g.met.M.Model.rules m)
    (view c.args.graph.now) (sound_of c.args.graph.now) c.args.from _ (omega (arith, next.0)) some))

pub fits-returns-in-None : goal.fits-returns-in-None
fits-returns-in-None g t c =
    let v = view c.args.graph.now in
    let best =
    nothing_left (g.M.Model.meaning c.args.model.now) c.args.from v (sound_of c.args.graph.now)
    c.in-None.ensures.lowest_open_write_from_there c.requires in
    (v, best.fills, c.requires)

pub fill-overflow_add-write : goal.fill-overflow_add-write
fill-overflow_add-write g t c =
    let v = view c.args.graph.now in
    let next = c.in-Some.ensures.lowest_open_write_from_there in
    let among : c.in-Some.write < length v.events = write_among v c.in-Some.write (left (is_write (label_of v c.in-Some.write)) _ next.1) in
    let few = (sound_of c.args.graph.now).few_events in
    omega arith
