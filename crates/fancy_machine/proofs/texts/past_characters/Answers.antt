use Rattle.std.proofs.Common.{ℕ, List, drop, sym, ap, ◌∙◌}
use Rattle.std.specs.Prelude.{slice_index}
use Rattle.fancy_tree.specs.declared.tree.Meaning.TheVariants.{Unicode}
use Rattle.fancy_meaning.specs.Backreference.{past_characters}
use Rattle.fancy_machine.specs.Attempt.{reading}
use Rattle.fancy_machine.proofs.ContinuesLemmas.{byte_seen, suppressed_of}
use Rattle.fancy_machine.proofs.RecallLemmas.{character_stops, character_leads, byte_stops, byte_leads, nothing_left, something_left, none_left}
use Rattle.fancy_machine.proofs.texts.past_characters.Goals as goal

pub returns-in_err-at-in-Some : goal.returns-in_err-at-in-Some
returns-in_err-at-in-Some c x =
    c.from_residual.ensures
    ∙ sym (character_stops (reading c.args.haystack.now Unicode x) c.loop-rest.rest.now c.loop-rest.at c.in-Some.c c.in-Some.ensures
    (sym c.in_err-at-in-Some.was ∙ c.past_sharing.ensures x))
    ∙ c.loop-rest.invariant x

pub loop-rest-preserved-in-Some : goal.loop-rest-preserved-in-Some
loop-rest-preserved-in-Some c x =
    ap (λ (l : List ℕ). past_characters (reading c.args.haystack.now Unicode x) l c.in_ok-at-in-Some.at)
    (c.bytes_from-rest.ensures ∙ ap (λ (n : ℕ). drop n c.loop-rest.rest.now) c.len_utf8.ensures.value)
    ∙ sym (character_leads (reading c.args.haystack.now Unicode x) c.loop-rest.rest.now c.loop-rest.at c.in-Some.c c.in_ok-at-in-Some.at c.in-Some.ensures
    (c.in_ok-at-in-Some.ensures x))
    ∙ c.loop-rest.invariant x

pub returns-in_err-at-in-None : goal.returns-in_err-at-in-None
returns-in_err-at-in-None c x =
    c.from_residual-in_err-at-in-None.ensures
    ∙ sym (byte_stops (reading c.args.haystack.now Unicode x) c.loop-rest.rest.now c.loop-rest.at
    (something_left c.loop-rest.rest.now _ c.is_empty.ensures c.loop-rest-test.true) (sym c.in-None.is ∙ c.character_at.ensures)
    (sym c.in_err-at-in-None.was ∙ c.past_raw_byte.ensures.past Unicode (suppressed_of x) 0
    ∙ byte_seen c.args.haystack.now Unicode x (suppressed_of x) 0 c.loop-rest.at (slice_index c.loop-rest.rest.now 0)))
    ∙ c.loop-rest.invariant x

pub loop-rest-preserved : goal.loop-rest-preserved
loop-rest-preserved c x =
    ap (λ (l : List ℕ). past_characters (reading c.args.haystack.now Unicode x) l c.in_ok-at-in-None.at) c.bytes_from-rest-in-None.ensures
    ∙ sym (byte_leads (reading c.args.haystack.now Unicode x) c.loop-rest.rest.now c.loop-rest.at c.in_ok-at-in-None.at
    (something_left c.loop-rest.rest.now _ c.is_empty.ensures c.loop-rest-test.true) (sym c.in-None.is ∙ c.character_at.ensures)
    (sym c.in_ok-at-in-None.was ∙ c.past_raw_byte.ensures.past Unicode (suppressed_of x) 0
    ∙ byte_seen c.args.haystack.now Unicode x (suppressed_of x) 0 c.loop-rest.at (slice_index c.loop-rest.rest.now 0)))
    ∙ c.loop-rest.invariant x

pub returns : goal.returns
returns c x =
    sym (nothing_left (reading c.args.haystack.now Unicode x) c.loop-rest.rest.now c.loop-rest.at
    (none_left c.loop-rest.rest.now _ c.is_empty.ensures c.loop-rest-test.false))
    ∙ c.loop-rest.invariant x
