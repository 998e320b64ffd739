-- What was found, and what the read gave.
use Rattle.std.proofs.Common.{◌≡◌, ℕ, ◌+◌, ◌<◌, Bool, true, false, List, [], ◌∷◌, ◌++◌, Option, None, Some, IfSome, IfOk, Result, Ok, Err, refl, sym, ap, ◌∙◌, subst, append_assoc, drop, get_or, length, if◌then◌else◌}
use Rattle.std.specs.Option.{option_map}
use Rattle.osm_outside.specs.Outside.{Shelved, held, Begins}
use Rattle.edit_script.specs.declared.step.Act.{Act}
use Rattle.edit_script.specs.declared.step.Act.TheVariants.{File, Serve}
use Rattle.edit_script.specs.declared.step.Step.{Step}
use Rattle.edit_history.specs.declared.counts.Group.{Group}
use Rattle.edit_steps.specs.declared.limits.Limits.{Limits}
use Rattle.edit_steps.specs.declared.loading.Found.{Found}
use Rattle.edit_steps.specs.declared.loading.Found.TheVariants.{Nothing}
use Rattle.edit_steps.specs.Given.{Given, Finds, AreBytes, given_by, all_given}
use Rattle.edit_steps.specs.Groups.{is_given_up}
use Rattle.edit_steps.specs.Load.{act_found, found_in, IsFoundBy, IsFoundIn, IsFoundWhen}
use Rattle.edit_steps.proofs.Steps.{steps-drop}

-- nothing comes of it, whatever was given
pub finds_always : {F G X : Type 0} (o : Option F) (there : F → G) (other : G) (found : X) (x : X) → found ≡ x → Finds o there found (λ given. x)
finds_always None there other found x is = record { given = other; is = is; by_files = tt }
finds_always (Some files) there other found x is = record { given = there files; is = is; by_files = refl }

-- what a read would have given, and what comes of it
pub would_find : {F G X : Type 0} (o : Option F) (there : F → G) (other : G) (comes : G → X) → (found : X) × Finds o there found comes
would_find None there other comes = (comes other, record { given = other; is = refl; by_files = tt })
would_find (Some files) there other comes = (comes (there files), record { given = there files; is = refl; by_files = refl })

begun : (h rest : Option (List ℕ)) → Begins h true rest → (bytes : List ℕ) × (h ≡ Some bytes) × (rest ≡ Some bytes)
begun None rest begins = let never : true ≡ false = begins in absurd cc
begun (Some bytes) rest begins = (bytes, refl, begins.1)

-- a file was begun, and read
pub finds_begun : {X : Type 0} (o : Option Shelved) (name : List ℕ) (rest : Option (List ℕ)) (found : X) (comes : Given → X)
    → IfSome o (λ files. Begins (held files name) true rest) → IfSome rest (λ bytes. found ≡ comes (Some bytes)) → AreBytes found (λ bytes. comes (Some bytes))
    → Finds o (λ files. held files name) found comes
finds_begun None name rest found comes begins is read = record { given = Some read.0; is = read.1; by_files = tt }
finds_begun (Some files) name rest found comes begins is read =
    let b = begun (held files name) rest begins in
    record { given = Some b.0; is = subst (λ r. IfSome r (λ bytes. found ≡ comes (Some bytes))) b.2 is; by_files = sym b.1 }

pub begun_read : {X E : Type 0} (o : Option Shelved) (name : List ℕ) (rest : Option (List ℕ)) (begins : Bool) (result : Result X E) (comes : Given → X) → begins ≡ true
    → IfSome o (λ files. Begins (held files name) begins rest) → IfOk result (λ found. IfSome rest (λ bytes. found ≡ comes (Some bytes))) → IfOk result (λ found. AreBytes found (λ bytes. comes (Some bytes)))
    → IfOk result (λ found. Finds o (λ files. held files name) found comes)
begun_read o name rest begins (Err e) comes is there known read = tt
begun_read o name rest begins (Ok found) comes is there known read = finds_begun o name rest found comes (subst (λ b. IfSome o (λ files. Begins (held files name) b rest)) is there) known read

pub ap_some : {X Y : Type 0} (o : Option (List ℕ)) (g : X → Y) (x : X) (f : List ℕ → X) → IfSome o (λ bytes. x ≡ f bytes) → IfSome o (λ bytes. g x ≡ g (f bytes))
ap_some None g x f is = tt
ap_some (Some bytes) g x f is = ap g is

pub finds_read : {X : Type 0} (o : Option Shelved) (name : List ℕ) (rest : Option (List ℕ)) (begins : Bool) (found : X) (of : List ℕ → X) → begins ≡ true
    → IfSome o (λ files. Begins (held files name) begins rest) → IfSome rest (λ bytes. found ≡ of bytes) → AreBytes found of
    → Finds o (λ files. held files name) (Some found) (option_map of)
finds_read {X = X} o name rest begins found of is there known read =
    finds_begun o name rest (Some found) (option_map of) (subst (λ b. IfSome o (λ files. Begins (held files name) b rest)) is there) (ap_some rest (λ (x : X). Some x) found of known) (read.0, ap (λ (x : X). Some x) read.1)

-- what an act finds is what comes of what it was given
finds_by : (o : Option Shelved) (limits : Limits) (act : Act) (found : Found) → IsFoundBy o limits act found → Finds o (λ files. given_by files act) found (λ given. act_found limits given act)
finds_by o limits (File name purpose) found is = is
finds_by o limits (Serve name) found is = is
finds_by o limits act found is = finds_always o (λ files. None) None found Nothing is

finds_test : (given_up : Bool) (o : Option Shelved) (limits : Limits) (act : Act) (found : Found) → IsFoundWhen given_up o limits act found
    → Finds o (λ files. given_by files act) found (λ given. if given_up then Nothing else act_found limits given act)
finds_test true o limits act found is = finds_always o (λ files. given_by files act) None found Nothing is
finds_test false o limits act found is = finds_by o limits act found is

pub finds_in : (o : Option Shelved) (limits : Limits) (group : Group) (act : Act) (found : Found) → IsFoundIn o limits group act found
    → Finds o (λ files. given_by files act) found (λ given. found_in limits given group act)
finds_in o limits group act found is = finds_test (is_given_up group) o limits act found is

-- One step more was given what it was.
pub on_files : (o : Option Shelved) (given : List Given) (got : Given) (i : ℕ) (steps : List Step) (step : Step) → i < length steps → step ≡ get_or steps i step
    → IfSome o (λ files. given ++ all_given files (drop i steps) ≡ all_given files steps) → IfSome o (λ files. got ≡ given_by files step.act)
    → IfSome o (λ files. (given ++ got ∷ []) ++ all_given files (drop (i + 1) steps) ≡ all_given files steps)
on_files None given got i steps step h e before is = tt
on_files (Some files) given got i steps step h e before is =
    append_assoc given (got ∷ []) (all_given files (drop (i + 1) steps))
    ∙ ap (λ l. given ++ l) (ap (λ (g : Given). g ∷ all_given files (drop (i + 1) steps)) is ∙ sym (ap (all_given files) (steps-drop i steps step h e)))
    ∙ before

-- what is given to the steps that are left, if they run
abbrev pub rest_given : Option Shelved → List Step → List Given
rest_given None steps = []
rest_given (Some files) steps = all_given files steps

pub closes : (o : Option Shelved) (given : List Given) (left steps : List Step) → IfSome o (λ files. given ++ all_given files left ≡ all_given files steps) → IfSome o (λ files. given ++ rest_given o left ≡ all_given files steps)
closes None given left steps is = tt
closes (Some files) given left steps is = is

pub none_yet : (o : Option Shelved) (steps : List Step) → IfSome o (λ files. rest_given o steps ≡ all_given files steps)
none_yet None steps = tt
none_yet (Some files) steps = refl

pub first_files : (o : Option Shelved) (steps : List Step) → IfSome o (λ files. [] ++ all_given files steps ≡ all_given files steps)
first_files None steps = tt
first_files (Some files) steps = refl
