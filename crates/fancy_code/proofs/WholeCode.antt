-- The whole code of a pattern gives the pattern's trace.
use Rattle.std.proofs.Common.{◌≡◌, ℕ, ◌+◌, ◌≤◌, List, length, sym, ◌∙◌, subst}
use Rattle.fancy_tree.specs.declared.tree.Meaning.{Meaning}
use Rattle.fancy_tree.specs.Pattern.{Pattern}
use Rattle.fancy_code.specs.declared.code.Code.{Code}
use Rattle.fancy_meaning.specs.Context.{Context, State}
use Rattle.fancy_meaning.specs.Events.{stay}
use Rattle.fancy_meaning.specs.Trace.{trace}
use Rattle.fancy_code.specs.Code.{instrs_of}
use Rattle.fancy_code.specs.Run.{Ends, CodeGives}
use Rattle.fancy_code.specs.Compile.{IsCodeOf, Means, depth, stopping}
use Rattle.fancy_meaning.proofs.EventLemmas.{bind-stay}
use Rattle.fancy_code.proofs.RunLemmas.{gives_match}
use Rattle.fancy_code.proofs.FollowsTrace.{follows}

-- however a way stops
abbrev pub Whole : Ends
Whole q s v = Unit {0}

pub program_gives : (x : Context) (limit : ℕ) (p : Pattern) (code : Code) → IsCodeOf p code → x.meaning ≡ code.meaning → limit ≤ length x.haystack → (s : State) (v : List ℕ) → s.place ≤ limit → length v ≡ code.groups
    → CodeGives x limit (instrs_of code) Whole (depth (length x.haystack) p + 1) code.start s v (trace x limit p s)
program_gives x limit p code c meant le s v within len =
    let means = subst (λ (m : Meaning). Means m p (instrs_of code) stopping c.entry) (sym meant) c.means in
    let f = follows x (instrs_of code) code.groups c.matching c.failing p limit le 0 stopping c.entry means c.numbered in
    let g = f.moved Whole 1 stay s v within len (λ r u past near below. gives_match x limit (instrs_of code) Whole 0 0 r u c.matching tt) in
    subst (λ (q : ℕ). CodeGives x limit (instrs_of code) Whole (depth (length x.haystack) p + 1) q s v (trace x limit p s)) c.begins
    (g.0, g.1, g.2 ∙ bind-stay (trace x limit p s), g.3)
