use Rattle.std.proofs.Common.{◌≡◌, ◌≤◌, reverse, length}
use Rattle.map_search.specs.Reading.{query_of_words}
use Rattle.map_search.specs.Words.{words_of}
use Rattle.map_search.proofs.Steps.{Left}
use Rattle.map_search.proofs.reading.read_onto.Given as goal

abbrev pub invariant-loop-word : goal.invariant-loop-word
invariant-loop-word l = record {
  few : l.count ≤ 1000;
  so_far : query_of_words (words_of l.words) ≡ Left l.count (words_of l.rest) l.query (reverse l.stack.items);
}

abbrev pub decreases-loop-word : goal.decreases-loop-word
decreases-loop-word l = length (words_of l.rest)
