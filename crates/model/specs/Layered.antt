-- A layer of a growing relation keeps the rules, and both layers are such.
use Rattle.std.specs.Prelude.{◌≡◌, ℕ, ◌<◌, Bool, true, false, ◌&&◌, ◌||◌, ◌==◌, nat_lt}
use Rattle.std.proofs.Common.{ap₂, inl, inr, arith, ltb→lt}
use Rattle.std.proofs.lemmas.Bool.Decides.{nat_tests}
use Rattle.execution.specs.Content.{Content, thread_of, label_of, po}
use Rattle.execution.proofs.Tests.{both, left, right, either}
use Rattle.event_set.proofs.Digits.{bit_zero}
use Rattle.relation.specs.declared.table.Relation.{Relation}
use Rattle.relation.specs.Table.{holds, Is}
use Rattle.model.specs.Meaning.{Meaning, Inside, Beyond, Floor, Growth, Rules}
use Rattle.model.specs.Layers.{layer, strong_fence, fenced, has_thread, within_threads}
use Rattle.model.specs.Either.{or_left, or_right}
use Rattle.model.specs.Growing.{Grows, part, po_grows, label_within, thread_within}

module _ (r : Content → ℕ → ℕ → Bool) (m : Meaning) where
  pub layer_inside : Grows r → Inside m → Inside (layer r m)
  layer_inside p below g s n a b h = elim (either (m.pairs g n a b) _ h) [
    | inl x ↦ below g s n a b x
    | inr y ↦ p.inside g s a b (right (nat_lt n m.orders) _ y)
  ]

  pub layer_beyond : Beyond m → Beyond (layer r m)
  layer_beyond below g s n a b l h = elim (either (m.pairs g n a b) _ h) [
    | inl x ↦ below g s n a b l x
    | inr y ↦ omega (arith, ltb→lt n m.orders (left (nat_lt n m.orders) _ y))
  ]

  pub layer_floor : Floor m → Floor (layer r m)
  layer_floor below g s = let f = below g s in record {
    by_po = λ a b x y. or_left (m.pairs g 0 a b) _ (f.by_po a b x y);
    by_rf = λ a b x. or_left (m.pairs g 0 a b) _ (f.by_rf a b x);
    by_mo = λ a b x. or_left (m.pairs g 0 a b) _ (f.by_mo a b x);
    by_rb = λ a b x. or_left (m.pairs g 0 a b) _ (f.by_rb a b x);
  }

  pub layer_growth : Grows r → Growth m → Growth (layer r m)
  layer_growth p below g h s t i n a b x = elim (either (m.pairs g n a b) _ x) [
    | inl y ↦ or_left (m.pairs h n a b) _ (below g h s t i n a b y)
    | inr y ↦
        let few = left (nat_lt n m.orders) _ y in
        let more = p.grows g h s t i a b (right (nat_lt n m.orders) _ y) in
        or_right (m.pairs h n a b) _ (both (nat_lt n m.orders) _ few more)
  ]

-- a layer over a model that keeps the rules keeps them
pub layer_rules : (r : Content → ℕ → ℕ → Bool) (m : Meaning) → Grows r → Rules m → Rules (layer r m)
layer_rules r m p below = record {
  few = below.few;
  inside = layer_inside r m p below.inside;
  beyond = layer_beyond r m below.beyond;
  floor = layer_floor r m below.floor;
  growth = layer_growth r m p below.growth;
}

pub fenced_grows : Grows fenced
fenced_grows = part po (λ g a b. strong_fence (label_of g a) || strong_fence (label_of g b)) po_grows
    (λ g h i a b k l. ap₂ (λ x y. strong_fence x || strong_fence y) (label_within g h i a k) (label_within g h i b l))

-- the row of a fence of mode 5, and of any other event
pub fence_row : (p f e : Bool) → f ≡ true → p ≡ (p && (f || e))
fence_row p f e h = grind arith

pub other_row : (p f e : Bool) → f ≡ false → (p && e) ≡ (p && (f || e))
other_row p f e h = grind arith

pub within_threads_grows : (threads : ℕ) → Grows (within_threads threads)
within_threads_grows threads = part po (λ g a b. (thread_of g a == thread_of g b) && has_thread threads (thread_of g a)) po_grows
    (λ g h i a b k l. ap₂ (λ x y. (x == y) && has_thread threads x) (thread_within g h i a k) (thread_within g h i b l))

-- the set of no thread has no pair
pub none_within_no_thread : (g : Content) (a b : ℕ) → within_threads 0 g a b ≡ false
none_within_no_thread g a b = grind (arith, bit_zero)

-- a table with the pairs below and then those of r is that of the layer
added : (k n : ℕ) (below here entry all : Bool) → k < n → entry ≡ below → all ≡ (here || entry) → all ≡ (below || (nat_lt k n && here))
added k n below here entry all l e f = grind (arith, nat_tests)

pub laid : (r s : ℕ → ℕ → Bool) (t u : Relation) (k n : ℕ) → k < n → Is t s → Is u (λ a b. r a b || holds t a b) → Is u (λ a b. s a b || (nat_lt k n && r a b))
laid r s t u k n l below more a b = added k n (s a b) (r a b) (holds t a b) (holds u a b) l (below a b) (more a b)
