use Rattle.fancy_prefilter.proofs.prefilter.Opening.may_hold.Goals as goal

pub returns-in-Window : goal.returns-in-Window
returns-in-Window c other haystack range_end p there = rw c.in-Window.is (c.may_hold-in-Window.ensures other haystack range_end p there)

pub returns-in-Sets : goal.returns-in-Sets
returns-in-Sets c other haystack range_end p there = rw c.in-Sets.is (rw c.deref.ensures.value at (c.may_hold-in-Sets.ensures other haystack range_end p there))
