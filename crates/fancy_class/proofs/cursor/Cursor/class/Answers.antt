use Rattle.fancy_class.proofs.ClassSpelling.{gives_class, gives_edges}
use Rattle.fancy_class.proofs.cursor.Cursor.class.Goals as goal

pub returns-clause-value : goal.returns-clause-value
returns-clause-value c = gives_class c.args.context.meaning c.args.context.fold c.bracketed_class.result _ _ c.bracketed_class.ensures.value

pub returns-clause-edges : goal.returns-clause-edges
returns-clause-edges c = gives_edges c.args.context.meaning c.args.context.fold c.bracketed_class.result _ _ (gives_class c.args.context.meaning c.args.context.fold c.bracketed_class.result _ _ c.bracketed_class.ensures.value)
