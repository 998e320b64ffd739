-- No bytes spell the empty text, and nothing else.
use Rattle.std.proofs.Common.{◌≡◌, ℕ, List, [], Some, refl, sym, ap}
use Rattle.std.specs.Option.{unwrap_or}
use Rattle.std.specs.Str.{is_utf8, chars}
use Rattle.opl_text.specs.Text.{unescaped}

pub empty_read : (written text : List ℕ) → written ≡ [] → text ≡ [] → unescaped written ≡ Some text
unfolding unescaped is_utf8 chars
empty_read written text e f = rw (e, f) refl

pub empty_is : (text : List ℕ) → unescaped [] ≡ Some text → text ≡ []
unfolding unescaped is_utf8 chars
empty_is text e = sym (ap (λ o. unwrap_or o []) e)
