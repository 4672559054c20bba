use Rattle.std.proofs.Common.{subst, sym}
use Rattle.fancy_search.specs.Groups.{AreCut}
use Rattle.fancy_search.proofs.CutLemmas.{groups_cut}
use Rattle.fancy_core.proofs.regex.Regex.capture.Goals as goal

pub new-requires : goal.new-requires
new-requires g c = record {
  placed = subst (AreCut _ _) (sym c.in_ok-groups.ensures)
      (groups_cut c.args.self.now.program (g.S.Haystack.text c.args.haystack) (g.S.Haystack.bytes c.args.haystack) c.args.request _ c.in-Some.found c.search.new.cache _
      _ c.requires.inside c.requires.suits (λ t. rw c.as_bytes.ensures.bytes at (c.as_bytes.ensures.utf8 t))
      (rw (c.in-Some.is, c.as_bytes.ensures.bytes) at c.in_ok-found.ensures.served.answer));
}
