-- Worked examples.
use Rattle.std.proofs.Common.{◌≡◌, pos, negsuc, [], ◌∷◌, None, Some, refl}
use Rattle.std.specs.Prelude.{codes}
use Rattle.std.specs.Fmt.{digits}
use Rattle.osm_base.specs.Number.{number_text, id_text, kind_letter, key_text}
use Rattle.osm_base.specs.declared.content.Content.{Content}
use Rattle.osm_base.specs.declared.key.Kind.TheVariants as kind
use Rattle.upload_order.specs.declared.change.Change.TheVariants as change
use Rattle.placeholder.specs.Confirm as placeholder
use Rattle.placeholder.specs.declared.answer.Answer.TheVariants.{Create, Modify, Delete}
use Rattle.answer_file.specs.Answers.{answers_of}
use Rattle.answer_file.specs.Lines.{answer_of, id_word, version_word}
use Rattle.answer_file.specs.Text.{text_of}

-- a node was made
made : answer_of (codes "create n-1 n50 v1") ≡ Some (Create (record { kind = kind.Node; id = negsuc 0 }) (pos 50))
unfolding id_word key_text id_text kind_letter number_text
made = refl

-- words may stand apart
apart : answer_of (codes "modify \t w5  v4") ≡ Some (Modify (record { kind = kind.Way; id = pos 5 }) 4)
unfolding version_word key_text id_text kind_letter number_text
apart = refl

-- an id takes leading zeros, a version doesn't
zeros_in_id : answer_of (codes "delete r09 v2") ≡ Some (Delete (record { kind = kind.Relation; id = pos 9 }) 2)
unfolding version_word key_text id_text kind_letter number_text
zeros_in_id = refl

zeros_in_version : answer_of (codes "delete r9 v02") ≡ None
unfolding version_word key_text id_text kind_letter number_text
zeros_in_version = refl

-- a node becomes no way
other_kind : answer_of (codes "create n-1 w50 v1") ≡ None
unfolding id_word key_text id_text kind_letter number_text
other_kind = refl

-- an object is made with the version 1
made_later : answer_of (codes "create n-1 n50 v2") ≡ None
unfolding id_word key_text id_text kind_letter number_text
made_later = refl

outer_blank : answer_of (codes " modify w5 v4") ≡ None
outer_blank = refl

-- the second line answers, and the third doesn't
file_read : answers_of (codes "# chunk 1\nmodify w5 v4\r\nmodify w5\nmodify w5 v4\n")
    ≡ record { answers = Modify (record { kind = kind.Way; id = pos 5 }) 4 ∷ []; lines = 2 ∷ []; wrong = Some 3 }
unfolding version_word key_text id_text kind_letter number_text
file_read = refl

-- a server made a node and changed a way of version 3: each answer is a line
answers_written : (sent changed : Content)
    → text_of (placeholder.answers_of (change.Create (record { kind = kind.Node; id = negsuc 0 }) sent ∷ change.Modify (record { kind = kind.Way; id = pos 5 }) 3 changed ∷ []) (pos 50 ∷ []))
    ≡ codes "create n-1 n50 v1\nmodify w5 v4\n"
unfolding digits
answers_written sent changed = refl
