use Rattle.std.proofs.Common.{subst, sym}
use Rattle.fancy_alphabet.specs.Alike.{AreSided}
use Rattle.fancy_alphabet.specs.declared.side.Tests.{Tests}
use Rattle.fancy_alphabet.proofs.AlikeLemmas.{keeps_from, sided_by_all, sided_by_words}
use Rattle.fancy_alphabet.proofs.alike.split_sides.Goals as goal

pub returns-in_ok-words-in-Words-clause-kept : goal.returns-in_ok-words-in-Words-clause-kept
returns-in_ok-words-in-Words-clause-kept c = keeps_from _ _ _ c.deref.ensures.value c.in_ok-words-in-Words.ensures.kept

pub returns-in_ok-words-in-Words-clause-told : goal.returns-in_ok-words-in-Words-clause-told
returns-in_ok-words-in-Words-clause-told c =
    let later = c.in_ok-words-in-Words.words.items in
    subst (λ (t : Tests). AreSided t later) (sym c.in-Words.is) (sided_by_words later c.in_ok-words-in-Words.ensures.told)

pub returns-in_ok-all-in-All-clause-kept : goal.returns-in_ok-all-in-All-clause-kept
returns-in_ok-all-in-All-clause-kept c test before =
    let words = keeps_from _ _ c.in_ok-words-in-All.words.items c.deref-in-All.ensures.value c.in_ok-words-in-All.ensures.kept in
    let feeds = keeps_from _ _ c.in_ok-feeds-in-All.feeds.items c.deref-in-All-2.ensures.value c.in_ok-feeds-in-All.ensures.kept in
    keeps_from _ _ c.in_ok-all-in-All.all.items c.deref-in-All-3.ensures.value c.in_ok-all-in-All.ensures.kept test (feeds test (words test before))

pub returns-in_ok-all-in-All-clause-told : goal.returns-in_ok-all-in-All-clause-told
returns-in_ok-all-in-All-clause-told c =
    let later = c.in_ok-all-in-All.all.items in
    let feeds = keeps_from _ _ c.in_ok-feeds-in-All.feeds.items c.deref-in-All-2.ensures.value c.in_ok-feeds-in-All.ensures.kept in
    let last = keeps_from _ _ later c.deref-in-All-3.ensures.value c.in_ok-all-in-All.ensures.kept in
    subst (λ (t : Tests). AreSided t later) (sym c.in-All.is)
    (sided_by_all later (λ test tests. last test (feeds test (c.in_ok-words-in-All.ensures.told test tests)))
    (λ test tests. last test (c.in_ok-feeds-in-All.ensures.told test tests)) c.in_ok-all-in-All.ensures.told)
