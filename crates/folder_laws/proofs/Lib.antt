mod RewrittenWhole
mod WholeCalls
