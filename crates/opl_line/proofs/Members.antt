-- A member is read in steps: its kind, its id and its role.
use Rattle.std.proofs.Common.{◌≡◌, ◌<◌, ℕ, ℤ, List, [], ◌∷◌, length, Some, None, Ok, Err, refl, arith}
use Rattle.osm_base.specs.Number.{id_text, kind_letter}
use Rattle.osm_base.specs.declared.key.Kind.{Kind}
use Rattle.opl_text.specs.Text.{unescaped}
use Rattle.opl_line.specs.declared.fault.LineFault.TheVariants as faults
use Rattle.opl_line.specs.Reads.{◌>>=◌, or_fault}
use Rattle.opl_line.specs.Cut.{before, after}
use Rattle.opl_line.specs.Field.{is, member_at}

pub no_member : (item : List ℕ) → length item < 1 → member_at item ≡ Err faults.BadMembers
unfolding member_at
no_member [] h = refl
no_member (b ∷ text) h = absurd (omega arith)

pub no_kind : (item : List ℕ) (b : ℕ) (text : List ℕ) → item ≡ b ∷ text → kind_letter b ≡ None → member_at item ≡ Err faults.BadMembers
unfolding member_at
no_kind item b text e k = rw (e, k) refl

pub no_id : (item : List ℕ) (b : ℕ) (text : List ℕ) (kind : Kind) → item ≡ b ∷ text → kind_letter b ≡ Some kind → id_text (before (is 64) text) ≡ None → member_at item ≡ Err faults.BadMembers
unfolding member_at
no_id item b text kind e k i = rw (e, k, i) refl

pub no_role : (item : List ℕ) (b : ℕ) (text : List ℕ) (kind : Kind) (id : ℤ) → item ≡ b ∷ text → kind_letter b ≡ Some kind → id_text (before (is 64) text) ≡ Some id → after (is 64) text ≡ None → member_at item ≡ Err faults.BadMembers
unfolding member_at
no_role item b text kind id e k i r = rw (e, k, i, r) refl

-- its role is left
pub role_left : (item : List ℕ) (b : ℕ) (text : List ℕ) (kind : Kind) (id : ℤ) (rest : List ℕ) → item ≡ b ∷ text → kind_letter b ≡ Some kind → id_text (before (is 64) text) ≡ Some id → after (is 64) text ≡ Some rest
    → member_at item ≡ (or_fault faults.BadText (unescaped rest) >>= λ role. Ok (record { key = record { kind = kind; id = id }; role = role }))
unfolding member_at
role_left item b text kind id rest e k i r = rw (e, k, i, r) refl

pub whole_member : (item : List ℕ) (b : ℕ) (text : List ℕ) (kind : Kind) (id : ℤ) (rest role : List ℕ) → item ≡ b ∷ text → kind_letter b ≡ Some kind → id_text (before (is 64) text) ≡ Some id → after (is 64) text ≡ Some rest
    → or_fault faults.BadText (unescaped rest) ≡ Ok role → member_at item ≡ Ok (record { key = record { kind = kind; id = id }; role = role })
unfolding member_at
whole_member item b text kind id rest role e k i r t = rw (e, k, i, r, t) refl
