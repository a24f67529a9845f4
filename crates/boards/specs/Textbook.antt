-- When a complete execution graph with a modification order is consistent, as the textbook has it: in propositions,
-- from the labels, the program order and the reads-from relation of a graph.
use Rattle.std.specs.Prelude.{◌≡◌, ℕ, T, ◌⊎◌, Some, ◌≢◌}
use Rattle.event.specs.declared.event.Mode.{Mode}
use Rattle.event.specs.declared.event.Mode.TheVariants.{NonAtomic, Relaxed, Acquire, Release, AcquireRelease, SeqCst}
use Rattle.event.specs.Labels.{is_read, is_write, location, value_read, value_written, mode_of}
use Rattle.execution.specs.Content.{Content, thread_of, label_of, initial, po, rf}

infixr 65 ◌∪◌
infixr 70 ◌⨾◌
-- union
abbrev pub ◌∪◌ : (ℕ → ℕ → Type 0) → (ℕ → ℕ → Type 0) → ℕ → ℕ → Type 0
◌∪◌ R S a b = R a b ⊎ S a b

-- composition: a step of R and then one of S
abbrev pub ◌⨾◌ : (ℕ → ℕ → Type 0) → (ℕ → ℕ → Type 0) → ℕ → ℕ → Type 0
◌⨾◌ R S a b = (m : ℕ) × R a m × S m b

-- inverse
abbrev pub inverse : (ℕ → ℕ → Type 0) → ℕ → ℕ → Type 0
inverse R a b = R b a

-- the pairs of R whose events differ
abbrev pub but_identity : (ℕ → ℕ → Type 0) → ℕ → ℕ → Type 0
but_identity R a b = R a b × (a ≢ b)

-- the identity on a set
abbrev pub on : (ℕ → Type 0) → ℕ → ℕ → Type 0
on S a b = S a × (a ≡ b)

-- one or more steps
pub data OneOrMore (R : ℕ → ℕ → Type 0) : ℕ → ℕ → Type 0 where
  once : {a b : ℕ} → R a b → OneOrMore R a b
  then : {a m b : ℕ} → R a m → OneOrMore R m b → OneOrMore R a b

-- one or more steps lead from no event back to it
abbrev pub Acyclic : (ℕ → ℕ → Type 0) → Type 0
Acyclic R = (a : ℕ) → OneOrMore R a a → ⊥

-- one mode is just below another in strength
pub data JustBelow : Mode → Mode → Type 0 where
  na_rlx : JustBelow NonAtomic Relaxed
  rlx_acq : JustBelow Relaxed Acquire
  rlx_rel : JustBelow Relaxed Release
  acq_acqrel : JustBelow Acquire AcquireRelease
  rel_acqrel : JustBelow Release AcquireRelease
  acqrel_sc : JustBelow AcquireRelease SeqCst

-- one mode is at most as strong as another
pub data AtMost : Mode → Mode → Type 0 where
  as_strong : {m : Mode} → AtMost m m
  stronger : {m n o : Mode} → JustBelow m n → AtMost n o → AtMost m o

-- the textbook's sets and relations of a graph
module _ (g : Content) where
  -- program order
  abbrev pub PO : ℕ → ℕ → Type 0
  PO a b = T (po g a b)

  -- reads-from
  abbrev pub RF : ℕ → ℕ → Type 0
  RF a b = T (rf g a b)

  -- reads and updates
  abbrev pub R : ℕ → Type 0
  R a = T (is_read (label_of g a))

  -- writes and updates
  abbrev pub W : ℕ → Type 0
  W a = T (is_write (label_of g a))

  -- a accesses x
  abbrev pub Accesses : ℕ → ℕ → Type 0
  Accesses x a = location (label_of g a) ≡ Some x

  -- the writes to x
  abbrev pub WAt : ℕ → ℕ → Type 0
  WAt x a = W a × Accesses x a

  -- writes at least as strong as release
  abbrev pub WRel : ℕ → Type 0
  WRel a = W a × AtMost Release (mode_of (label_of g a))

  -- reads at least as strong as acquire
  abbrev pub RAcq : ℕ → Type 0
  RAcq a = R a × AtMost Acquire (mode_of (label_of g a))

  -- the pairs between accesses of one location
  abbrev pub per_location : (ℕ → ℕ → Type 0) → ℕ → ℕ → Type 0
  per_location S a b = S a b × ((x : ℕ) × Accesses x a × Accesses x b)

  -- an execution graph: program order is a strict partial order, and a read has at most one source, a write of its location and value
  pub record ExecutionGraph : Type 0 where
    pub po_irreflexive : (a : ℕ) → PO a a → ⊥
    pub po_transitive : (a b c : ℕ) → PO a b → PO b c → PO a c
    pub from_write_to_read : (w r : ℕ) → RF w r → W w × R r
    pub of_one_location : (w r : ℕ) → RF w r → (x : ℕ) × Accesses x w × Accesses x r
    pub of_one_value : (w r : ℕ) → RF w r → (v : ℕ) × (value_written (label_of g w) ≡ Some v) × (value_read (label_of g r) ≡ Some v)
    pub one_source : (v w r : ℕ) → RF v r → RF w r → v ≡ w

  -- every read reads from some write
  abbrev pub Complete : Type 0
  Complete = (r : ℕ) → R r → (w : ℕ) × RF w r

  -- a strict total order on the writes to each location, with the initial write first
  pub record ModificationOrder (MO : ℕ → ℕ → Type 0) : Type 0 where
    pub of_one_location : (a b : ℕ) → MO a b → (x : ℕ) × WAt x a × WAt x b
    pub irreflexive : (a : ℕ) → MO a a → ⊥
    pub transitive : (a b c : ℕ) → MO a b → MO b c → MO a c
    pub total : (x a b : ℕ) → WAt x a → WAt x b → (a ≢ b) → MO a b ⊎ MO b a
    pub initial_first : (x a b : ℕ) → WAt x a → WAt x b → T (initial g a) → (a ≢ b) → MO a b

  -- reads-before: rf⁻¹ ⨾ mo, but for the identity
  abbrev pub RB : (ℕ → ℕ → Type 0) → ℕ → ℕ → Type 0
  RB MO = but_identity (inverse RF ⨾ MO)

  -- synchronizes-with: [W rel] ⨾ rf ⨾ [R acq]
  abbrev pub SW : ℕ → ℕ → Type 0
  SW = on WRel ⨾ RF ⨾ on RAcq

  -- happens-before: one or more steps of po ∪ sw
  abbrev pub HB : ℕ → ℕ → Type 0
  HB = OneOrMore (PO ∪ SW)

  -- program order but for the pairs from a write that reads nothing to a read that writes nothing
  abbrev pub PPO : ℕ → ℕ → Type 0
  PPO a b = PO a b × ((W a × (R a → ⊥)) × (R b × (W b → ⊥)) → ⊥)

  -- reads-from between different threads
  abbrev pub RFE : ℕ → ℕ → Type 0
  RFE a b = RF a b × (thread_of g a ≢ thread_of g b)

  -- what every model asks: a complete execution graph with a modification order, and that what it orders is acyclic
  pub record Consistent (MO : ℕ → ℕ → Type 0) (ordered : ℕ → ℕ → Type 0) : Type 0 where
    pub execution_graph : ExecutionGraph
    pub complete : Complete
    pub modification_order : ModificationOrder MO
    pub acyclic : Acyclic ordered

  -- po at one location ∪ rf ∪ mo ∪ rb is acyclic
  abbrev pub Coherent : (ℕ → ℕ → Type 0) → Type 0
  Coherent MO = Consistent MO (per_location PO ∪ RF ∪ MO ∪ RB MO)

  -- hb at one location ∪ rf ∪ mo ∪ rb is acyclic
  abbrev pub C11Consistent : (ℕ → ℕ → Type 0) → Type 0
  C11Consistent MO = Consistent MO (per_location HB ∪ RF ∪ MO ∪ RB MO)

  -- one or more steps of po ∪ rf at one location ∪ mo ∪ rb is acyclic
  abbrev pub RaConsistent : (ℕ → ℕ → Type 0) → Type 0
  RaConsistent MO = Consistent MO (per_location (OneOrMore (PO ∪ RF)) ∪ MO ∪ RB MO)

  -- po ∪ rf ∪ mo ∪ rb is acyclic
  abbrev pub ScConsistent : (ℕ → ℕ → Type 0) → Type 0
  ScConsistent MO = Consistent MO (PO ∪ RF ∪ MO ∪ RB MO)

  -- coherent, and ppo ∪ rfe ∪ mo ∪ rb is acyclic
  abbrev pub TsoConsistent : (ℕ → ℕ → Type 0) → Type 0
  TsoConsistent MO = Coherent MO × Acyclic (PPO ∪ RFE ∪ MO ∪ RB MO)
