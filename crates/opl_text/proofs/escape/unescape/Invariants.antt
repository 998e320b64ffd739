use Rattle.std.proofs.Common.{◌≡◌, ◌++◌, ◌≤◌, ◌<◌, ◌^◌, length, drop, List, ℕ, None, IfSome, string_bytes}
use Rattle.std.specs.Option.{option_map}
use Rattle.std.specs.Str.{chars}
use lib.Utf8.{encodes}
use Rattle.opl_text.specs.Escape.{characters_of}
use Rattle.opl_text.proofs.escape.unescape.Given as goal

abbrev pub invariant-loop-c : goal.invariant-loop-c
invariant-loop-c l = record {
  reads : option_map (λ (ds : List ℕ). string_bytes l.text ++ encodes ds) (characters_of l.escape (drop (length l.yielded) (chars l.field))) ≡ option_map encodes (characters_of None (chars l.field));
  within : IfSome l.escape (λ e. (e.digits ≤ 6) × (e.code < 16 ^ e.digits));
}
