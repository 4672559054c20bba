use Rattle.std.proofs.Common.{sym, refl, ◌∙◌, arith, true≢false}
use Rattle.fancy_machine.specs.Asked.{groups_held}
use Rattle.fancy_meaning.specs.Search.{search}
use Rattle.fancy_states.specs.Search.{groups_of}
use Rattle.fancy_search.specs.Cached.{groups_or}
use Rattle.fancy_search.specs.declared.cache.Engine.TheVariants.{Machine}
use Rattle.fancy_search.specs.Programs.{query_in}
use Rattle.fancy_search.specs.SearchCounts.{IsHardProgram}
use Rattle.fancy_search.proofs.KeptTablesLemmas.{found_lines}
use Rattle.fancy_search.proofs.RefusalLemmas.{refuses_easy}
use Rattle.fancy_search.proofs.ResultLemmas.{if_any, if_ok, if_err}
use Rattle.fancy_search.proofs.SearchedLemmas.{found_stands, none_tried, none_tried_in, no_returns}
use Rattle.fancy_search.proofs.program.Program.search_next.Goals as goal

pub returns-then-is_hopeless-clause-served : goal.returns-then-is_hopeless-clause-served
returns-then-is_hopeless-clause-served c =
    let none = λ (hard : IsHardProgram c.args.self.now). no_returns c.args.self.now (query_in c.args.self.now c.args.asked.now) (c.is_hopeless.ensures.hard hard c.if-is_hopeless.true) in
    record {
      answer = sym (c.is_hopeless.ensures.none c.if-is_hopeless.true);
      held = λ _. tt;
      stands = tt;
      counts = record { steps = omega arith; returns = omega arith; paired = c.requires.room.2; within = λ h. h; limited = λ e. cc };
      idle = λ _. refl;
      none = λ _. refl;
      hard = λ hard. record {
        counted = omega (arith, none hard);
        stopped = λ e. cc;
        fits = omega arith;
        most = omega (arith, none hard);
      };
      refused = tt;
      allowed = λ hard. omega (arith, none hard);
      heeds = omega arith;
    }

pub returns-then-self-clause-served : goal.returns-then-self-clause-served
returns-then-self-clause-served c =
    let q = query_in c.args.self.now c.args.asked.now in
    let served = c.search_easy.ensures.served in
    let hopeful = c.is_hopeless.ensures.seeks c.if-is_hopeless.false in
    let easy = sym c.if-self.true ∙ c.args.self.now.decided in
    record {
      answer = served.answer;
      held = served.held;
      stands = if_ok _ _ (found_stands c.args.self.now c.args.asked.now (groups_or c.search_easy.new.cache (groups_of 0 (search q)))) c.search_easy.result served.answer;
      counts = served.counts;
      idle = λ none. served.idle (none_tried_in c.args.self.now q hopeful none);
      none = λ none. if_ok _ _ (none_tried c.args.self.now q (groups_or c.search_easy.new.cache (groups_of 0 (search q))) hopeful none) c.search_easy.result served.answer;
      hard = λ hard. absurd (true≢false (easy ∙ hard));
      refused = if_err _ _ (refuses_easy c.args.self.now q) c.search_easy.result served.refused;
      allowed = if_ok _ _ (λ _ _ hard. absurd (true≢false (easy ∙ hard))) c.search_easy.result served.answer;
      heeds = rw served.apart (omega arith);
    }

pub returns-clause-served : goal.returns-clause-served
returns-clause-served c =
    let q = query_in c.args.self.now c.args.asked.now in
    let hopeful = c.is_hopeless.ensures.seeks c.if-is_hopeless.false in
    let returned = c.backtrack.ensures.returned in
    record {
      answer = c.backtrack.ensures.answer;
      held = λ _. if_any _ (λ _. refl) c.backtrack.result;
      stands = if_ok _ _ (found_stands c.args.self.now c.args.asked.now (groups_held c.backtrack.new.cache)) c.backtrack.result c.backtrack.ensures.answer;
      counts = c.backtrack.ensures.counts;
      idle = λ none. c.backtrack.ensures.idle (none_tried_in c.args.self.now q hopeful none);
      none = λ none. if_ok _ _ (none_tried c.args.self.now q (groups_held c.backtrack.new.cache) hopeful none) c.backtrack.result c.backtrack.ensures.answer;
      hard = λ _. returned;
      refused = c.backtrack.ensures.refused;
      allowed = if_ok _ _ (λ _ counted hard. omega (arith, counted, returned.fits)) c.backtrack.result returned.counted;
      heeds = c.backtrack.ensures.heeds;
    }

pub backtrack-requires : goal.backtrack-requires
backtrack-requires c =
    (refl, (sym c.args.self.now.decided ∙ c.if-self.false, (c.is_hopeless.ensures.seeks c.if-is_hopeless.false, (c.requires.room, λ kept. c.requires.kept.2 (c.is_lines-is_kept.ensures kept)))))

pub returns-clause-kept : goal.returns-clause-kept
returns-clause-kept c =
    if_ok _ _ (found_lines c.args.self.now c.args.asked.now.haystack.now (record c.args.cache.now { served = Machine; machine = c.backtrack.new.cache }) c.args.asked.now.request.now) c.backtrack.result c.backtrack.ensures.kept
