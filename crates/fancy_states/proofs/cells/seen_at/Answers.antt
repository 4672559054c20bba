use Rattle.std.proofs.Common.{sym, subst}
use Rattle.fancy_alphabet.specs.Alike.{IsSeenLike}
use Rattle.fancy_alphabet.specs.Classes.{sight_for}
use Rattle.fancy_alphabet.specs.declared.side.Side.{Side}
use Rattle.fancy_alphabet.proofs.SightLemmas.{like_ascii, like_wide}
use Rattle.fancy_states.proofs.cells.seen_at.Goals as goal

pub returns-in-None : goal.returns-in-None
returns-in-None c = record {
  told = λ all. like_wide c.args.attempt.now c.args.place c.args.cells.now.table.classes.tests all.1.tests c.sight_at.result c.sight_at.ensures.seen c.sight_at.ensures.fits;
}

pub returns-in-Some : goal.returns-in-Some
returns-in-Some c =
    let a = c.args.attempt.now in
    let classes = c.args.cells.now.table.classes in
    let stands = c.before-in-Some.ensures in
    let read = c.in-Some.ensures in record {
      told = λ all. subst (IsSeenLike a c.args.place) (sym c.sight.ensures)
          (subst (λ (s : Side). IsSeenLike a c.args.place (sight_for classes s c.in-Some.byte)) (sym stands.2)
          (like_ascii a c.args.place classes all.1 stands.0 c.in-Some.byte stands.1 read.0 read.1 read.2));
    }
