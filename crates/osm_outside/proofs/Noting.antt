-- A shelf along a run: what was noted so far, and one read more.
use Rattle.std.proofs.Common.{◌≡◌, ℕ, suc, List, [], ◌∷◌, ◌++◌, Option, None, Some, refl, sym, ap, ◌∙◌, subst, append_assoc, append-nil, flat_map, length, take, arith}
use Rattle.std.specs.Io.KnownBytes.{Appends}
use Rattle.std.proofs.lemmas.List.{take_all, take-append-le}
use Rattle.osm_outside.specs.Outside.{Note}
use Rattle.osm_outside.specs.Noted.{AreNotes, Noted, NotedFirst, Read, note_of, read_of, reads_in}

-- nothing was noted yet
pub noted_none : (taken : Option (List ℕ)) (seen : List Note) → Noted taken seen seen []
noted_none taken seen = record { notes = []; behind = sym (append-nil seen); are = tt }

are_more : (taken : Option (List ℕ)) (a b : List Note) (xs ys : List Read) → AreNotes taken a xs → AreNotes taken b ys → AreNotes taken (a ++ b) (xs ++ ys)
are_more taken [] b [] ys first second = second
are_more taken [] b (x ∷ xs) ys first second = absurd first
are_more taken (note ∷ a) b [] ys first second = absurd first
are_more taken (note ∷ a) b (x ∷ xs) ys first second = (first.0, first.1, are_more taken a b xs ys first.2 second)

-- some reads, and then others
pub noted_more : (taken : Option (List ℕ)) (old mid new : List Note) (xs ys : List Read) → Noted taken old mid xs → Noted taken mid new ys → Noted taken old new (xs ++ ys)
noted_more taken old mid new xs ys first second = record {
  notes = first.notes ++ second.notes;
  behind = second.behind ∙ ap (λ l. l ++ second.notes) first.behind ∙ append_assoc old first.notes second.notes;
  are = are_more taken first.notes second.notes xs ys first.are second.are;
}

-- one read, or none, at a moment when this text was written
pub noted_at : (taken mid : Option (List ℕ)) (old new : List Note) (begins : Option (List ℕ)) (before : List ℕ) → Appends taken mid before → new ≡ old ++ note_of begins mid → Noted taken old new (read_of begins before)
noted_at taken mid old new None before written is = record { notes = []; behind = is; are = tt }
noted_at taken mid old new (Some name) before written is = record { notes = (name, mid) ∷ []; behind = is; are = (refl, written, tt) }

-- all of them are the first of more
pub noted_front : (taken : Option (List ℕ)) (old new : List Note) (xs ys : List Read) → Noted taken old new xs → NotedFirst taken old new (xs ++ ys)
noted_front taken old new xs ys noted = record {
  count = length xs;
  noted = subst (Noted taken old new) (sym (take-append-le (length xs) xs ys (omega arith) ∙ take_all (length xs) xs (omega arith))) noted;
}

-- a read, and then the first of others
pub noted_on : (taken : Option (List ℕ)) (old mid new : List Note) (x : Read) (ys : List Read) → Noted taken old mid (x ∷ []) → NotedFirst taken mid new ys → NotedFirst taken old new (x ∷ ys)
noted_on taken old mid new x ys first second = record { count = suc second.count; noted = noted_more taken old mid new (x ∷ []) (take second.count ys) first second.noted }

module _ {X : Type 0} (begins : X → Option (List ℕ)) (text : X → List ℕ) where
  -- the reads of some steps, and then of others
  pub reads_append : (before : List ℕ) (xs ys : List X) → reads_in begins text before (xs ++ ys) ≡ reads_in begins text before xs ++ reads_in begins text (before ++ flat_map text xs) ys
  reads_append before [] ys = ap (λ t. reads_in begins text t ys) (sym (append-nil before))
  reads_append before (x ∷ xs) ys =
      ap (λ l. read_of (begins x) before ++ l) (reads_append (before ++ text x) xs ys ∙ ap (λ t. reads_in begins text (before ++ text x) xs ++ reads_in begins text t ys) (append_assoc before (text x) (flat_map text xs)))
      ∙ sym (append_assoc (read_of (begins x) before) (reads_in begins text (before ++ text x) xs) (reads_in begins text (before ++ flat_map text (x ∷ xs)) ys))

  -- one step more
  pub reads_push : (xs : List X) (x : X) → reads_in begins text [] (xs ++ x ∷ []) ≡ reads_in begins text [] xs ++ read_of (begins x) (flat_map text xs)
  reads_push xs x = reads_append [] xs (x ∷ []) ∙ ap (λ l. reads_in begins text [] xs ++ l) (append-nil (read_of (begins x) (flat_map text xs)))

  -- It began the file that it names, once the texts of those before it were written.
  pub noted_push : (taken mid : Option (List ℕ)) (old seen new : List Note) (xs : List X) (x : X) → Appends taken mid (flat_map text xs) → Noted taken old seen (reads_in begins text [] xs) → new ≡ seen ++ note_of (begins x) mid
      → Noted taken old new (reads_in begins text [] (xs ++ x ∷ []))
  noted_push taken mid old seen new xs x written noted is =
      subst (Noted taken old new) (sym (reads_push xs x))
      (noted_more taken old seen new (reads_in begins text [] xs) (read_of (begins x) (flat_map text xs)) noted (noted_at taken mid seen new (begins x) (flat_map text xs) written is))

  -- Those of the first steps were noted.
  pub noted_of_first : (taken : Option (List ℕ)) (old new : List Note) (all xs ys : List X) → all ≡ xs ++ ys → Noted taken old new (reads_in begins text [] xs) → NotedFirst taken old new (reads_in begins text [] all)
  noted_of_first taken old new all xs ys is noted =
      subst (NotedFirst taken old new) (sym (ap (reads_in begins text []) is ∙ reads_append [] xs ys))
      (noted_front taken old new (reads_in begins text [] xs) (reads_in begins text (flat_map text xs) ys) noted)
