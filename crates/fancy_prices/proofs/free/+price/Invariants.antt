use Rattle.fancy_prices.proofs.free.+price.Given as goal

abbrev pub decreases-price_of : goal.decreases-price_of
decreases-price_of l = l.deep

abbrev pub decreases-price_of_body : goal.decreases-price_of_body
decreases-price_of_body l = l.deep

abbrev pub decreases-price_of_look : goal.decreases-price_of_look
decreases-price_of_look l = l.deep
