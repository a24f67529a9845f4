-- Lists of lists, one after the other.
use Rattle.std.proofs.Common.{◌≡◌, ℕ, zero, suc, ◌+◌, ◌<◌, ◌≤◌, List, [], ◌∷◌, ◌++◌, Bool, true, cond, map, filter, length, take, drop, get_or, sym, refl, ap, ◌∙◌, subst, inl, inr, add-one, arith}
use Rattle.std.proofs.lemmas.List.{append-nil, append_assoc, map-append, length-append, length_push, get_or_append_left, get_or_push, take-append-drop, drop_more}
use Rattle.std.proofs.lemmas.List.Elements.{filter-append}
use Rattle.std.proofs.Math.ListN.{set}
use Rattle.std.proofs.Math.Seq.{set-append_seam}
use Rattle.std.proofs.lemmas.Bool.{cases_eq}
use Rattle.execution.specs.Lists.{upto}
use Rattle.execution.specs.Content.{Content}
use Rattle.cycles.specs.Listings.{Listing}
use Rattle.model.specs.Meaning.{Meaning}
use Rattle.verdict.specs.Answers.{joined, laid}
use Rattle.judge.specs.Sheets.{Listed}
use Rattle.judge.specs.Judges.{ListsShown}

pub joined_push : (xss : List (List ℕ)) (ys : List ℕ) → joined (xss ++ (ys ∷ [])) ≡ joined xss ++ ys
joined_push [] ys = append-nil ys
joined_push (xs ∷ xss) ys = ap (λ (zs : List ℕ). xs ++ zs) (joined_push xss ys) ∙ sym (append_assoc xs (joined xss) ys)

-- one event more is written
pub laid_more : (xs before : List ℕ) (v : ℕ) → length xs < length before → set (laid xs before) (length xs) v ≡ laid (xs ++ (v ∷ [])) before
laid_more xs before v l =
    ap (λ (ys : List ℕ). set (xs ++ ys) (length xs) v) (drop_more before (length xs) 0 l) ∙ set-append_seam xs _ _ v
    ∙ sym (append_assoc xs (v ∷ []) _) ∙ ap (λ (n : ℕ). (xs ++ (v ∷ [])) ++ drop n before) (sym (length_push xs v))

-- those of the first numbers
module _ (f : ℕ → List ℕ) where
  abbrev pub first_of : ℕ → List ℕ
  first_of n = joined (map f (upto n))

  first_suc : (k : ℕ) → first_of (suc k) ≡ first_of k ++ f k
  first_suc k = ap joined (map-append f (upto k) (k ∷ [])) ∙ joined_push (map f (upto k)) (f k)

  pub first_more : (k : ℕ) → first_of (k + 1) ≡ first_of k ++ f k
  first_more k = ap first_of (add-one k) ∙ first_suc k

  -- one of them ends no later than all
  pub first_bound : (n k : ℕ) → k < n → length (first_of k) + length (f k) ≤ length (first_of n)
  first_bound zero k l = absurd (omega arith)
  first_bound (suc n) k l =
      let whole = ap length (first_suc n) ∙ length-append (first_of n) (f n) in
      elim (cases_eq k n) [
        | inl e ↦ subst (λ (x : ℕ). length (first_of x) + length (f x) ≤ length (first_of (suc n))) (sym e) (omega arith)
        | inr ne ↦ let ih = first_bound n k (omega arith) in omega arith
      ]

-- the list of one order more
module _ (m : Meaning) (h : Content) where
  pub listed_more : (n : ℕ) (lists : List (List ℕ)) (xs : List ℕ) → Listed m h n lists → Listing (m.pairs h n) (length h.events) xs → Listed m h (n + 1) (lists ++ (xs ∷ []))
  listed_more n lists xs was new = record {
    as_many = length_push lists xs ∙ ap (λ (k : ℕ). k + 1) was.as_many;
    listed = λ k l. elim (cases_eq k n) [
      | inl e ↦
          subst (λ (x : ℕ). Listing (m.pairs h x) (length h.events) (get_or (lists ++ (xs ∷ [])) x [])) (sym e)
          (subst (λ (ys : List ℕ). Listing (m.pairs h n) (length h.events) ys) (sym (get_or_push lists xs [] n was.as_many)) new)
      | inr ne ↦
          let below : k < length lists = omega (arith, was.as_many) in
          subst (λ (ys : List ℕ). Listing (m.pairs h k) (length h.events) ys) (sym (get_or_append_left lists (xs ∷ []) [] k below)) (was.listed k (omega arith))
    ];
  }

  pub lists_none : ListsShown m h 0 []
  lists_none = record { lists = []; listed = record { as_many = refl; listed = λ k l. absurd (omega arith) }; all = refl; few = omega arith }

  pub lists_more : (n : ℕ) (xs before after : List ℕ) → ListsShown m h n before → Listing (m.pairs h n) (length h.events) xs → length xs ≤ 256 → after ≡ before ++ xs → ListsShown m h (n + 1) after
  lists_more n xs before after s new small e = record {
    lists = s.lists ++ (xs ∷ []);
    listed = listed_more n s.lists xs s.listed new;
    all = e ∙ ap (λ (zs : List ℕ). zs ++ xs) s.all ∙ sym (joined_push s.lists xs);
    few = omega (arith, ap length e, length-append before xs, s.few, small);
  }

-- of those in a list that pass, the first ones up to one that passes are fewer
module _ (p : ℕ → Bool) (xs : List ℕ) (i : ℕ) (l : i < length xs) where
  kept_first : (b : Bool) (x : ℕ) (ys : List ℕ) → b ≡ true → 0 < length (cond b (x ∷ ys) ys)
  kept_first b x ys e = grind arith

  -- there is room for one that passes
  pub kept_room : p (get_or xs i 0) ≡ true → length (filter p (take i xs)) < length (filter p xs)
  kept_room e =
      let split = ap (filter p) (sym (take-append-drop i xs) ∙ ap (λ (zs : List ℕ). take i xs ++ zs) (drop_more xs i 0 l)) ∙ filter-append p (take i xs) (get_or xs i 0 ∷ drop (i + 1) xs) in
      let some = kept_first (p (get_or xs i 0)) (get_or xs i 0) (filter p (drop (i + 1) xs)) e in
      omega (arith, ap length split, length-append (filter p (take i xs)) (filter p (get_or xs i 0 ∷ drop (i + 1) xs)))
