-- Words, and what they ask for.
use Rattle.std.proofs.Common.{◌≡◌, ℕ, [], ◌∷◌, Option, None, Some, refl, codes}
use Rattle.clap.specs.Words.{Text}
use Rattle.clap.proofs.OnLiterals.{clap_on_literals}
use Rattle.command_line.specs.Words.{CommandLineValue, command_of}

abbrev asked : Text → ℕ → ℕ → Option CommandLineValue
asked script max_objects max_file = Some (record { script = script; max_objects = max_objects; max_file = max_file })

plain : command_of (codes "e" ∷ codes "s" ∷ []) ≡ asked (codes "s") 2000000 268435456
unfolding command_of clap_on_literals
plain = refl

with_objects : command_of (codes "e" ∷ codes "--max-objects" ∷ codes "5" ∷ codes "s" ∷ []) ≡ asked (codes "s") 5 268435456
unfolding command_of clap_on_literals
with_objects = refl

with_both : command_of (codes "e" ∷ codes "--max-file=1073741824" ∷ codes "s" ∷ codes "--max-objects=5000000" ∷ []) ≡ asked (codes "s") 5000000 1073741824
unfolding command_of clap_on_literals
with_both = refl

no_objects : command_of (codes "e" ∷ codes "--max-objects" ∷ codes "0" ∷ codes "s" ∷ []) ≡ None
unfolding command_of clap_on_literals
no_objects = refl

too_many_objects : command_of (codes "e" ∷ codes "--max-objects" ∷ codes "5000001" ∷ codes "s" ∷ []) ≡ None
unfolding command_of clap_on_literals
too_many_objects = refl

too_large_file : command_of (codes "e" ∷ codes "--max-file" ∷ codes "1073741825" ∷ codes "s" ∷ []) ≡ None
unfolding command_of clap_on_literals
too_large_file = refl

no_number : command_of (codes "e" ∷ codes "s" ∷ codes "--max-objects" ∷ []) ≡ None
unfolding command_of clap_on_literals
no_number = refl

twice : command_of (codes "e" ∷ codes "--max-file" ∷ codes "5" ∷ codes "--max-file" ∷ codes "5" ∷ codes "s" ∷ []) ≡ None
unfolding command_of clap_on_literals
twice = refl

two_names : command_of (codes "e" ∷ codes "s" ∷ codes "t" ∷ []) ≡ None
unfolding command_of clap_on_literals
two_names = refl

no_name : command_of (codes "e" ∷ []) ≡ None
unfolding command_of clap_on_literals
no_name = refl

no_words : command_of [] ≡ None
unfolding command_of clap_on_literals
no_words = refl

help : command_of (codes "e" ∷ codes "--help" ∷ []) ≡ None
unfolding command_of clap_on_literals
help = refl

name_like_an_option : command_of (codes "e" ∷ codes "--" ∷ codes "--x" ∷ []) ≡ asked (codes "--x") 2000000 268435456
unfolding command_of clap_on_literals
name_like_an_option = refl

hyphen : command_of (codes "e" ∷ codes "-" ∷ []) ≡ asked (codes "-") 2000000 268435456
unfolding command_of clap_on_literals
hyphen = refl

empty_name : command_of (codes "e" ∷ [] ∷ []) ≡ asked [] 2000000 268435456
unfolding command_of clap_on_literals
empty_name = refl
