-- Files added one by one under distinct names.
use Rattle.std.proofs.Common.{◌≡◌, ℕ, Bool, true, false, if◌then◌else◌, List, [], ◌∷◌, ◌++◌, Option, Some, None, refl}
use Rattle.std.specs.Str.{bytes_eq}
use Rattle.osm_outside.specs.Outside.{Shelved, held}

one_more : (test : Bool) (bytes : List ℕ) (rest more : Option (List ℕ)) → (if test then Some bytes else rest) ≡ None → (rest ≡ None → more ≡ None) → (if test then Some bytes else more) ≡ None
one_more true bytes rest more e f = e
one_more false bytes rest more e f = f e

-- what isn't there stays away when a file of another name comes
pub held-more : (files : Shelved) (added name bytes : List ℕ) → held files name ≡ None → bytes_eq added name ≡ false → held (files ++ (added, bytes) ∷ []) name ≡ None
held-more [] added name bytes e other = rw other refl
held-more (file ∷ files) added name bytes e other = one_more (bytes_eq file.0 name) file.1 (held files name) (held (files ++ (added, bytes) ∷ []) name) e (λ f. held-more files added name bytes f other)
